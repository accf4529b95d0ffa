use Rattle.std.proofs.Common.{◌≡◌, ℕ, Some, None, inl, inr, sym, refl, ap, ◌∙◌, subst}
use Rattle.std.specs.Option.{unwrap_or}
use Rattle.scheme.specs.Farm.{Lowest}
use Rattle.scheme.specs.Differences.{Gaps}
use Rattle.scheme.specs.Four.{Known, Fails, Scattered, Doubted, row_from_first}
use Rattle.pairs.specs.Held.{gaps_in}
use Rattle.tally.specs.Rows.{sum_in, signature_in}
use Rattle.four.specs.Relied.{relied, doubted}
use Rattle.four.proofs.Shaped.{apart_by_sums, known_relied, station_relied, as_held}
use Rattle.four.proofs.weighing.weigh_rows.Goals as goal

pub returns-in_default : goal.returns-in_default
returns-in_default g c =
    let farm = c.args.farm.now in
    (inl (apart_by_sums g.F.Field.ops farm.stations farm.pages farm.bound (sum_in c.args.tally.now farm.pages) c.args.gaps.now c.requires.solved c.in_default.ensures), refl)

pub returns-then-not-all_add : goal.returns-then-not-all_add
returns-then-not-all_add g c =
    let f = g.F.Field.ops in
    let farm = c.args.farm.now in
    let r = c.in-Some.relied in
    let E = relied f r.doubt (gaps_in f r.gaps.now) in
    let known = known_relied f farm.stations farm.pages farm.bound (sum_in c.args.tally.now farm.pages) c.args.gaps.now c.requires.solved r c.in-Some.ensures c.requires.least in
    let same : unwrap_or (doubted r.doubt) 0 ≡ c.unwrap_or.result = sym (c.unwrap_or.ensures ∙ ap (λ o. unwrap_or o 0) c.aside.ensures) in
    (inr (E, c.unwrap_or.result, subst (Known f farm.stations farm.pages farm.bound (sum_in c.args.tally.now farm.pages) E) same known, c.if-not-all_add.ensures), refl)

pub returns-in_default-aside : goal.returns-in_default-aside
returns-in_default-aside g c =
    let f = g.F.Field.ops in
    let farm = c.args.farm.now in
    let r = c.in-Some.relied in
    let E = relied f r.doubt (gaps_in f r.gaps.now) in
    let known = known_relied f farm.stations farm.pages farm.bound (sum_in c.args.tally.now farm.pages) c.args.gaps.now c.requires.solved r c.in-Some.ensures c.requires.least in
    let none : doubted r.doubt ≡ None = sym c.in_default-aside.ensures in
    let nobody : c.unwrap_or.result ≡ 0 = c.unwrap_or.ensures ∙ ap (λ o. unwrap_or o 0) (c.aside.ensures ∙ none) in (
      row_from_first f (signature_in c.args.tally.now farm.pages 1) E,
      (
        E,
        subst (Known f farm.stations farm.pages farm.bound (sum_in c.args.tally.now farm.pages) E) (ap (λ o. unwrap_or o 0) none) known,
        subst (λ (k : ℕ). ¬ Fails f farm.stations farm.pages E k) nobody c.if-not-all_add.ensures,
        λ s n st p. refl,
      ),
      c.fill_rows.ensures,
    )

pub returns-in-Some-first_scattered : goal.returns-in-Some-first_scattered
returns-in-Some-first_scattered g c =
    let f = g.F.Field.ops in
    let farm = c.args.farm.now in
    let r = c.in-Some.relied in
    let E = relied f r.doubt (gaps_in f r.gaps.now) in
    let i = c.in-Some-aside.aside in
    let known = known_relied f farm.stations farm.pages farm.bound (sum_in c.args.tally.now farm.pages) c.args.gaps.now c.requires.solved r c.in-Some.ensures c.requires.least in
    let is : doubted r.doubt ≡ Some i = sym c.in-Some-aside.ensures in
    let same : c.unwrap_or.result ≡ i = c.unwrap_or.ensures ∙ ap (λ o. unwrap_or o 0) (c.aside.ensures ∙ is) in
    let K : ℕ → Type 0 = Known f farm.stations farm.pages farm.bound (sum_in c.args.tally.now farm.pages) E in
    let A : ℕ → Type 0 = λ k. ¬ Fails f farm.stations farm.pages E k in
    let S : ℕ → Type 0 = λ k. Lowest farm.pages (Scattered farm.stations E k) c.in-Some-first_scattered.page in (
      (
        E,
        i,
        subst K (ap (λ o. unwrap_or o 0) is) known,
        station_relied f farm.stations farm.pages farm.bound (sum_in c.args.tally.now farm.pages) c.args.gaps.now c.requires.solved r c.in-Some.ensures i is,
        subst A same c.if-not-all_add.ensures,
        subst S same c.in-Some-first_scattered.ensures,
      ),
      refl,
    )

pub returns-in-None : goal.returns-in-None
returns-in-None g c =
    let f = g.F.Field.ops in
    let farm = c.args.farm.now in
    let T = sum_in c.args.tally.now farm.pages in
    let r = c.in-Some.relied in
    let E = relied f r.doubt (gaps_in f r.gaps.now) in
    let i = c.in-Some-aside.aside in
    let known = known_relied f farm.stations farm.pages farm.bound T c.args.gaps.now c.requires.solved r c.in-Some.ensures c.requires.least in
    let is : doubted r.doubt ≡ Some i = sym c.in-Some-aside.ensures in
    let same : c.unwrap_or.result ≡ i = c.unwrap_or.ensures ∙ ap (λ o. unwrap_or o 0) (c.aside.ensures ∙ is) in
    let K : ℕ → Type 0 = Known f farm.stations farm.pages farm.bound T E in
    let A : ℕ → Type 0 = λ k. ¬ Fails f farm.stations farm.pages E k in
    let doubt : Doubted f farm.stations farm.pages farm.bound T E i = record {
      known = subst K (ap (λ o. unwrap_or o 0) is) known;
      station = station_relied f farm.stations farm.pages farm.bound T c.args.gaps.now c.requires.solved r c.in-Some.ensures i is;
      adds = subst A same c.if-not-all_add.ensures;
      gathered = λ n page. subst (λ k. ¬ Scattered farm.stations E k n) same (c.in-None.ensures n page);
    } in (
      subst (λ (E : Gaps). Doubted f farm.stations farm.pages farm.bound T E i)
          (as_held f farm.stations farm.pages farm.bound T c.args.gaps.now c.requires.solved r c.in-Some.ensures i is) doubt,
      refl,
    )
