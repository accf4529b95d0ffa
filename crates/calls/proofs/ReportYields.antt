-- Rows that a check closed on yield all that was told.
use Rattle.std.proofs.Common.{◌≡◌, ℕ, ◌<◌, ◌≤◌, ◌⊎◌, List, refl, sym, ◌∙◌, subst, inl, inr, arith}
use native.Mathlib.Decide.{ℕ_discrete, dec_le}
use Rattle.field.specs.Field.{Ops, Laws, Spread, page_limit}
use Rattle.field.specs.Sums.{entry, power_sum}
use Rattle.algebra.specs.Vectors.{Page, Codes}
use Rattle.refusal.specs.Rules.{Within}
use Rattle.wire.specs.declared.asked.Asked.{Asked}
use Rattle.wire.specs.declared.asked.Asked.TheVariants.{Sums, Signatures}
use Rattle.scheme.specs.Farm.{Table, Station, Same}
use Rattle.scheme.specs.Askings.{first_sums, all_sums, filled, asks}
use Rattle.scheme.specs.Weighing.{Weighs}
use Rattle.scheme.specs.Settling.{Settles}
use Rattle.scheme.proofs.Codes.{power_sum_same, sum_code}
use Rattle.scheme.specs.Theorem.{Told}
use Rattle.scheme.specs.Yielding.{Coherent}
use Rattle.scheme.proofs.AtMostOne.{one_outcome}
use Rattle.scheme.proofs.AtLeastOne.{some_outcome}
use Rattle.scheme.proofs.Rows.{coded}
use Rattle.scheme.proofs.Yields.{filled_yields}
use Rattle.tally.specs.Rows.{sum_in, signature_in}
use Rattle.calls.specs.declared.terms.Terms.{Terms}
use Rattle.calls.specs.declared.phases.Verdict.TheVariants.{Report}
use Rattle.calls.specs.declared.phases.Way.TheVariants.{ByWeighing, BySettling}
use Rattle.calls.specs.Questions.{PlainTerms}
use Rattle.calls.specs.Closing.{WeighsBy}
use Rattle.calls.specs.Runs.{closed, Call}
use Rattle.calls.specs.Replies.{Replied, AsTold, FirstReplied, SecondReplied, FirstAsked, OnlyReplied, AsksBy, SettlesBy}
use Rattle.calls.specs.Promise.{YieldsAll, ReportYields}
use Rattle.calls.proofs.FirstSums.{firsts_among}
use Rattle.calls.proofs.JudgedBy.{alike_asks}
use Rattle.calls.proofs.ShapesKept.{shape_kept}
use Rattle.calls.proofs.RepliesJudged.{replies_judged}

module _ (f : Ops) (l : Laws f) (spread : Spread f) (own : List ℕ) (t : Terms) (pages : Within 1 (page_limit f) t.farm.pages) (ks : List Call) (T P : Table)
    (told : AsTold f own t ks T P) (codes : Codes f t.farm.pages (entry own))
    (small : (a : Asked) (s i v : ℕ) → Replied ks a s i v → v < f.size) (firsts : FirstReplied ks t) (R : Table) (same : Same t.farm.stations t.farm.pages P R) where
  row_codes : Codes f t.farm.pages (P 1)
  row_codes n p = subst (λ x. x < f.size) (sym (told.own_row n p)) (codes n p)

  row_sums : (j : ℕ) → power_sum f t.farm.pages (P 1) j ≡ power_sum f t.farm.pages (entry own) j
  row_sums j = power_sum_same f t.farm.pages (P 1) (entry own) told.own_row j

  -- ── a plain check
  module _ (plain : PlainTerms t) (due : (s j v : ℕ) → Replied ks Sums s j v → FirstAsked t Sums j) where
    plain_codes : (s : ℕ) → Station t.farm.stations s → Codes f t.farm.pages (P s)
    plain_codes s st n p = elim (ℕ_discrete s 1) [
      | yes e ↦ subst (λ s. P s n < f.size) (sym e) (row_codes n p)
      | no d ↦ elim (firsts s (omega arith)) [
        | inl x ↦ let r = x.1 n p in subst (λ x. x < f.size) (sym (told.signatures s n r.0 r.1)) (small Signatures s n r.0 r.1)
        | inr x ↦ absurd (x.0 plain)
      ]
    ]

    plain_yields : YieldsAll f own t ks P
    plain_yields = record {
      codes = plain_codes;
      told = record {
        own_row = told.own_row;
        own_sums = λ j p. row_sums j;
        sums = λ s j v r. absurd (elim (due s j v r) [ inl x ↦ (let a = x.1 in cc) | inr x ↦ x.0 plain ]);
        signatures = told.signatures;
      };
    }

  -- ── any other
  module _ (not : ¬ PlainTerms t) where
    own_sums : (j : ℕ) → Page (all_sums t.farm.pages t.farm.bound) j → T 1 j ≡ power_sum f t.farm.pages (P 1) j
    own_sums j p = told.own_sums j p ∙ sym (row_sums j)

    among : first_sums t.farm.stations t.farm.bound ≤ all_sums t.farm.pages t.farm.bound
    among = firsts_among t.farm.stations t.farm.pages t.farm.bound t.farm.stations_in.0 t.farm.bound_in.0 not

    sums_small : (s j : ℕ) → Station t.farm.stations s → Page (first_sums t.farm.stations t.farm.bound) j → T s j < f.size
    sums_small s j st p = elim (ℕ_discrete s 1) [
      | yes e ↦ subst (λ s. T s j < f.size) (sym e) (subst (λ x. x < f.size) (sym (own_sums j (omega (arith, p, among)))) (sum_code l t.farm.pages (P 1) j))
      | no d ↦ elim (firsts s (omega arith)) [
        | inl x ↦ absurd (not x.0)
        | inr x ↦ let r = x.1 j p in subst (λ x. x < f.size) (sym (told.sums s j r.0 r.1)) (small Sums s j r.0 r.1)
      ]
    ]

    -- what is told has the form of an answer
    coherent : ((k j : ℕ) → Weighs f t.farm.stations t.farm.pages t.farm.bound T (P 1) (asks k) → Page (all_sums t.farm.pages t.farm.bound) j → T k j < f.size)
        → Coherent f t.farm.stations t.farm.pages t.farm.bound T T (P 1)
    coherent second = record {
      own_first = λ j p. own_sums j (omega (arith, p, among));
      own_all = own_sums;
      first_codes = sums_small;
      second_codes = second;
      told_again = λ k j a p. refl;
    }

    module _ (ends : Weighs f t.farm.stations t.farm.pages t.farm.bound T (P 1) (filled R) ⊎ Settles f t.farm.stations t.farm.pages t.farm.bound T T (P 1) (filled R))
        (tells : Told f t.farm.stations t.farm.pages t.farm.bound R T T (P 1)) where
      filled_codes : (s : ℕ) → Station t.farm.stations s → Codes f t.farm.pages (P s)
      filled_codes s st n p =
          subst (λ x. x < f.size) (sym (same s n st p)) (coded f l t.farm.stations t.farm.pages t.farm.bound T T (P 1) row_codes R ends s st n p)

      row_is : (s j : ℕ) → Station t.farm.stations s → power_sum f t.farm.pages (P s) j ≡ power_sum f t.farm.pages (R s) j
      row_is s j st = power_sum_same f t.farm.pages (P s) (R s) (λ n q. same s n st q) j

      filled_yield : ((s j v : ℕ) → Replied ks Sums s j v → power_sum f t.farm.pages (P s) j ≡ v) → YieldsAll f own t ks P
      filled_yield sums = record {
        codes = filled_codes;
        told = record { own_row = told.own_row; own_sums = λ j p. row_sums j; sums = sums; signatures = told.signatures };
      }

      first_sum : (s j v : ℕ) → Within 2 t.farm.stations s → Replied ks Sums s j v → FirstAsked t Sums j → power_sum f t.farm.pages (P s) j ≡ v
      first_sum s j v w r (inl x) = absurd (let a = x.1 in cc)
      first_sum s j v w r (inr x) =
          let st : Station t.farm.stations s = omega (arith, w) in
          row_is s j st ∙ sym (tells.first s j st x.2) ∙ told.sums s j v r

      second_sum : (k : ℕ) → AsksBy f t T P k → Within 2 t.farm.stations k → (j v : ℕ) → Replied ks Sums k j v → Page (all_sums t.farm.pages t.farm.bound) j
          → power_sum f t.farm.pages (P k) j ≡ v
      second_sum k a w j v r p = row_is k j (omega (arith, w)) ∙ sym (tells.second k j a.1 p) ∙ told.sums k j v r

    -- weighing filled the rows, and so asks nobody
    weighed_tells : Weighs f t.farm.stations t.farm.pages t.farm.bound T (P 1) (filled R) → Told f t.farm.stations t.farm.pages t.farm.bound R T T (P 1)
    weighed_tells w =
        filled_yields f l spread t.farm.stations t.farm.pages t.farm.bound (omega (arith, pages.1)) T T (P 1) (coherent (λ k j a p. absurd (
        let one = alike_asks (filled R) ((one_outcome f l spread t.farm.stations t.farm.pages t.farm.bound (omega (arith, pages.1)) T T (P 1) (filled R) (asks k)).0 w a) in
        cc))) R (not, inl w)

    -- it asked station k, and nobody else
    settled_tells : (k : ℕ) → AsksBy f t T P k → SecondReplied ks t k → SettlesBy f t T P (filled R) → Told f t.farm.stations t.farm.pages t.farm.bound R T T (P 1)
    settled_tells k a second x =
        filled_yields f l spread t.farm.stations t.farm.pages t.farm.bound (omega (arith, pages.1)) T T (P 1) (coherent small_second) R (not, inr ((k, a.1), x))
      where
        w : Within 2 t.farm.stations k
        w =
            let asked = (some_outcome f l spread t.farm.stations t.farm.pages t.farm.bound t.farm.stations_in.0 (omega (arith, pages.1)) T T (P 1)).1 k a.1 in
            (asked.0, asked.1)

        small_here : (j : ℕ) → Page (all_sums t.farm.pages t.farm.bound) j → T k j < f.size
        small_here j p = elim (dec_le j (first_sums t.farm.stations t.farm.bound)) [
          | yes low ↦ sums_small k j (omega (arith, w)) (omega (arith, p))
          | no high ↦ let r = second j (omega arith) in subst (λ x. x < f.size) (sym (told.sums k j r.0 r.1)) (small Sums k j r.0 r.1)
        ]

        small_second : (i j : ℕ) → Weighs f t.farm.stations t.farm.pages t.farm.bound T (P 1) (asks i) → Page (all_sums t.farm.pages t.farm.bound) j → T i j < f.size
        small_second i j b p =
            let one = alike_asks (asks k) ((one_outcome f l spread t.farm.stations t.farm.pages t.farm.bound (omega (arith, pages.1)) T T (P 1) (asks k) (asks i)).0 a.1 b) in
            let e : k ≡ i = cc in
            subst (λ i. T i j < f.size) e (small_here j p)

  weighed_yields : OnlyReplied f ks t (closed ByWeighing Report) → WeighsBy f t T P (filled R) → YieldsAll f own t ks P
  weighed_yields only (inl x) = plain_yields x.2 (λ s j v r. (only Sums s j v r).1)
  weighed_yields only (inr (not, w)) =
      filled_yield not (inl w) (weighed_tells not w) (λ s j v r. let o = only Sums s j v r in first_sum not (inl w) (weighed_tells not w) s j v o.0 r o.1)

  settled_yields : (k : ℕ) → OnlyReplied f ks t (closed (BySettling k) Report) → AsksBy f t T P k → SecondReplied ks t k
      → SettlesBy f t T P (filled R) → YieldsAll f own t ks P
  settled_yields k only a second x =
      let tells = settled_tells a.0 k a second x in
      filled_yield a.0 (inr x) tells (λ s j v r. let o = only Sums s j v r in elim o.1 [
        | inl y ↦ first_sum a.0 (inr x) tells s j v o.0 r y
        | inr y ↦
            subst (λ s. Within 2 t.farm.stations s → Replied ks Sums s j v → power_sum f t.farm.pages (P s) j ≡ v) y.0
            (λ w r. second_sum a.0 (inr x) tells k a w j v r (omega (arith, y.2))) o.0 r
      ])

pub report_yields : ReportYields
report_yields f l spread own ks b ByWeighing last x codes =
    let r = replies_judged f l spread own x.opened ks b (closed ByWeighing Report) x.run in
    let at = r.2 last x.one in
    let closes = at.1 (sum_in last b.terms.farm.pages) (signature_in last b.terms.farm.pages) at.0 in
    weighed_yields f l spread own b.terms (shape_kept f l spread own x.opened ks b (closed ByWeighing Report) x.run).pages ks (sum_in last b.terms.farm.pages)
    (signature_in last b.terms.farm.pages) at.0 codes (λ a s i v y. (r.1 a s i v y).2) r.0 closes.0 closes.2 r.1 closes.1
report_yields f l spread own ks b (BySettling k) last x codes =
    let r = replies_judged f l spread own x.opened ks b (closed (BySettling k) Report) x.run in
    let at = r.2 last x.one in
    let closes = at.1 (sum_in last b.terms.farm.pages) (signature_in last b.terms.farm.pages) at.0 in
    settled_yields f l spread own b.terms (shape_kept f l spread own x.opened ks b (closed (BySettling k) Report) x.run).pages ks (sum_in last b.terms.farm.pages)
    (signature_in last b.terms.farm.pages) at.0 codes (λ a s i v y. (r.1 a s i v y).2) r.0.0 closes.1.0 closes.1.2 k r.1 closes.0 r.0.1 closes.1.1
