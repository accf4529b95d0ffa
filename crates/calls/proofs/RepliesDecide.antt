-- Two checks that were told the same close alike.
use Rattle.std.proofs.Common.{◌≡◌, ℕ, ◌⊎◌, List, refl, sym, ap, ◌∙◌, subst, subst₂, inl, inr, arith}
use native.Mathlib.Decide.{ℕ_discrete}
use Rattle.field.specs.Field.{Ops, Laws, Spread, page_limit}
use Rattle.field.specs.Sums.{entry, power_sum}
use Rattle.algebra.specs.Vectors.{Page}
use Rattle.refusal.specs.Rules.{Within}
use Rattle.scheme.specs.Farm.{Table, Same, Decided}
use Rattle.scheme.specs.Askings.{all_sums, Plain, Outcome, over, split, filled, asks}
use Rattle.scheme.specs.Weighing.{Weighs}
use Rattle.scheme.specs.Settling.{Settles}
use Rattle.scheme.specs.Closing.{Splits, Reports}
use Rattle.scheme.specs.Theorem.{Alike, both_over, same_page, same_rows, same_station}
use Rattle.scheme.proofs.AtMostOne.{one_outcome}
use Rattle.scheme.proofs.Search.{lowest_one}
use Rattle.scheme.proofs.Tables.{decided_same}
use Rattle.tally.specs.Rows.{sum_in, signature_in}
use Rattle.calls.specs.declared.terms.Terms.{Terms}
use Rattle.calls.specs.declared.phases.Verdict.{Verdict}
use Rattle.calls.specs.declared.phases.Verdict.TheVariants.{Report, Split, Over}
use Rattle.calls.specs.declared.phases.Way.{Way}
use Rattle.calls.specs.declared.phases.Way.TheVariants.{ByWeighing, BySettling}
use Rattle.calls.specs.Closing.{WeighsBy, ClosesBy}
use Rattle.calls.specs.Runs.{closed, Call}
use Rattle.calls.specs.Replies.{AsTold, Unfilled, ClosedAs, AsksBy, SettlesBy, JudgedBy, SameFarm, RepliesDecide}
use Rattle.calls.proofs.ShapesKept.{shape_kept}
use Rattle.calls.proofs.Stands.{fewer_told}
use Rattle.calls.proofs.JudgedBy.{alike_asks}
use Rattle.calls.proofs.RepliesJudged.{replies_judged}

-- ── one outcome, one closing
module _ (t : Terms) where
  -- what a check closes with on an outcome, and what its rows then hold
  abbrev EndsAs : (tally : List ℕ) → Verdict → Outcome → Type 0
  EndsAs tally v over = (v ≡ Over) × Unfilled t tally
  EndsAs tally v (split n) = (v ≡ Split n) × Unfilled t tally
  EndsAs tally v (filled R) =
      Same t.farm.stations t.farm.pages (signature_in tally t.farm.pages) R
      × (((v ≡ Report) × Reports t.farm.stations t.farm.pages R) ⊎ ((n : ℕ) × (v ≡ Split n) × Splits t.farm.stations t.farm.pages R n))
  EndsAs tally v (asks k) = ⊥

  ends_as : (Ends : Outcome → Type 0) (tally : List ℕ) (v : Verdict) → ClosedAs t tally Ends v → (o : Outcome) × Ends o × EndsAs tally v o
  ends_as Ends tally Over x = (over, x.0, (refl, x.1))
  ends_as Ends tally (Split n) (inl x) = (split n, x.0, (refl, x.1))
  ends_as Ends tally (Split n) (inr x) = (filled x.0, x.1, (x.2, inr (n, refl, x.3)))
  ends_as Ends tally Report x = (filled x.0, x.1, (x.2, inl (refl, x.3)))

  asks_nobody : (tally : List ℕ) (v : Verdict) (o : Outcome) (k : ℕ) → EndsAs tally v o → o ≡ asks k → ⊥
  asks_nobody tally v o k x e = subst (EndsAs tally v) e x

  module _ (tally tally' : List ℕ) (row : (n : ℕ) → Page t.farm.pages n → signature_in tally t.farm.pages 1 n ≡ signature_in tally' t.farm.pages 1 n) where
    both_unfilled : Unfilled t tally → Unfilled t tally' → Same t.farm.stations t.farm.pages (signature_in tally t.farm.pages) (signature_in tally' t.farm.pages)
    both_unfilled x y s n st p = elim (ℕ_discrete s 1) [
      | yes e ↦ subst (λ s. signature_in tally t.farm.pages s n ≡ signature_in tally' t.farm.pages s n) (sym e) (row n p)
      | no d ↦ x s n (omega arith) p ∙ sym (y s n (omega arith) p)
    ]

    alike_ends : (v v' : Verdict) {o p : Outcome} → Alike t.farm.stations t.farm.pages o p → EndsAs tally v o → EndsAs tally' v' p
        → (v ≡ v') × Same t.farm.stations t.farm.pages (signature_in tally t.farm.pages) (signature_in tally' t.farm.pages)
    alike_ends v v' both_over x y = (x.0 ∙ sym y.0, both_unfilled x.1 y.1)
    alike_ends v v' same_page x y = (x.0 ∙ sym y.0, both_unfilled x.1 y.1)
    alike_ends v v' (same_rows {Q = Q} {R = R} same) x y = (verdict x.1 y.1, λ s n st p. x.0 s n st p ∙ same s n st p ∙ sym (y.0 s n st p))
      where
        to : (n : ℕ) → Page t.farm.pages n → Decided t.farm.stations Q n → Decided t.farm.stations R n
        to n p = decided_same t.farm.stations t.farm.pages Q R same n p

        back : (n : ℕ) → Page t.farm.pages n → Decided t.farm.stations R n → Decided t.farm.stations Q n
        back n p = decided_same t.farm.stations t.farm.pages R Q (λ s n st p. sym (same s n st p)) n p

        verdict : ((v ≡ Report) × Reports t.farm.stations t.farm.pages Q) ⊎ ((n : ℕ) × (v ≡ Split n) × Splits t.farm.stations t.farm.pages Q n)
            → ((v' ≡ Report) × Reports t.farm.stations t.farm.pages R) ⊎ ((n : ℕ) × (v' ≡ Split n) × Splits t.farm.stations t.farm.pages R n) → v ≡ v'
        verdict (inl x) (inl y) = x.0 ∙ sym y.0
        verdict (inl x) (inr (n, e, s)) = absurd (s.1 (to n s.0 (x.1 n s.0)))
        verdict (inr (n, e, s)) (inl y) = absurd (s.1 (back n s.0 (y.1 n s.0)))
        verdict (inr (m, d, r)) (inr (n, e, s)) =
            d
            ∙ ap Split (lowest_one t.farm.pages (λ n. ¬ Decided t.farm.stations Q n) (λ n. ¬ Decided t.farm.stations R n) m n
            (λ n p no_q has. no_q (back n p has)) (λ n p no_r has. no_r (to n p has)) r s)
            ∙ sym e
    alike_ends v v' same_station x y = absurd x

-- ── one closing, by the same tables
module _ (f : Ops) (l : Laws f) (spread : Spread f) (t : Terms) (pages : Within 1 (page_limit f) t.farm.pages) (T P : Table) where
  weigh_one : (o p : Outcome) → Weighs f t.farm.stations t.farm.pages t.farm.bound T (P 1) o → Weighs f t.farm.stations t.farm.pages t.farm.bound T (P 1) p → Alike t.farm.stations t.farm.pages o p
  weigh_one o p = (one_outcome f l spread t.farm.stations t.farm.pages t.farm.bound (omega (arith, pages.1)) T T (P 1) o p).0

  weighs_one : (o p : Outcome) → WeighsBy f t T P o → WeighsBy f t T P p → Alike t.farm.stations t.farm.pages o p
  weighs_one o p (inl x) (inl y) =
      subst₂ (Alike t.farm.stations t.farm.pages) (sym x.1) (sym y.1) (same_rows (λ s n st q. x.3 s n st q ∙ sym (y.3 s n st q)))
  weighs_one o p (inl x) (inr y) = absurd (y.0 x.2)
  weighs_one o p (inr x) (inl y) = absurd (x.0 y.2)
  weighs_one o p (inr x) (inr y) = weigh_one o p x.1 y.1

  settles_one : (o p : Outcome) → SettlesBy f t T P o → SettlesBy f t T P p → Alike t.farm.stations t.farm.pages o p
  settles_one o p = (one_outcome f l spread t.farm.stations t.farm.pages t.farm.bound (omega (arith, pages.1)) T T (P 1) o p).1

  -- where weighing closed a check it asks nobody
  not_asked : (k : ℕ) → AsksBy f t T P k → (tally : List ℕ) (v : Verdict) (o : Outcome) → WeighsBy f t T P o → EndsAs t tally v o → ⊥
  not_asked k a tally v o (inl x) ends = a.0 x.2
  not_asked k a tally v o (inr x) ends = asks_nobody t tally v o k ends (alike_asks o (weigh_one o (asks k) x.1 a.1))

  module _ (tally tally' : List ℕ) (row : (n : ℕ) → Page t.farm.pages n → signature_in tally t.farm.pages 1 n ≡ signature_in tally' t.farm.pages 1 n) where
    closings : (Ends : Outcome → Type 0) → ((o p : Outcome) → Ends o → Ends p → Alike t.farm.stations t.farm.pages o p) → (v v' : Verdict) → ClosedAs t tally Ends v
        → ClosedAs t tally' Ends v' → (v ≡ v') × Same t.farm.stations t.farm.pages (signature_in tally t.farm.pages) (signature_in tally' t.farm.pages)
    closings Ends one v v' x y =
        let a = ends_as t Ends tally v x in
        let b = ends_as t Ends tally' v' y in
        alike_ends t tally tally' row v v' (one a.0 b.0 a.1 b.1) a.2 b.2

    judged_one : (way way' : Way) (v v' : Verdict) → JudgedBy f t T P tally (closed way v) → JudgedBy f t T P tally' (closed way' v')
        → (way ≡ way') × (v ≡ v') × Same t.farm.stations t.farm.pages (signature_in tally t.farm.pages) (signature_in tally' t.farm.pages)
    judged_one ByWeighing ByWeighing v v' x y = let c = closings (WeighsBy f t T P) weighs_one v v' x y in (refl, c.0, c.1)
    judged_one ByWeighing (BySettling k) v v' x y = absurd (let a = ends_as t (WeighsBy f t T P) tally v x in not_asked k y.0 tally v a.0 a.1 a.2)
    judged_one (BySettling k) ByWeighing v v' x y = absurd (let a = ends_as t (WeighsBy f t T P) tally' v' y in not_asked k x.0 tally' v' a.0 a.1 a.2)
    judged_one (BySettling k) (BySettling j) v v' x y =
        let e = alike_asks (asks k) (weigh_one (asks k) (asks j) x.0.1 y.0.1) in
        let same : k ≡ j = cc e in
        let c = closings (SettlesBy f t T P) settles_one v v' x.1 y.1 in
        (ap (λ k. BySettling k) same, c.0, c.1)

-- ── on the same terms
module _ (t t' : Terms) (same : SameFarm t t') where
  by_same : (Q : (M N bound : ℕ) → Type 0) → Q t'.farm.stations t'.farm.pages t'.farm.bound → Q t.farm.stations t.farm.pages t.farm.bound
  by_same Q x =
      subst (λ bound. Q t.farm.stations t.farm.pages bound) same.2 (subst (λ N. Q t.farm.stations N t'.farm.bound) same.1 (subst (λ M. Q M t'.farm.pages t'.farm.bound) same.0 x))

  told_at : (f : Ops) (own : List ℕ) (ks : List Call) (T P : Table) → AsTold f own t ks T P → AsTold f own t' ks T P
  told_at f own ks T P h = record {
    own_row = subst (λ N. (n : ℕ) → Page N n → P 1 n ≡ entry own n) (sym same.1) h.own_row;
    own_sums = subst₂ (λ N bound. (j : ℕ) → Page (all_sums N bound) j → T 1 j ≡ power_sum f N (entry own) j) (sym same.1) (sym same.2) h.own_sums;
    sums = h.sums;
    signatures = h.signatures;
  }

  judged_at : (f : Ops) (T P : Table) (tally : List ℕ) (way : Way) (v : Verdict) → JudgedBy f t' T P tally (closed way v)
      → JudgedBy f t T P tally (closed way v)
  judged_at f T P tally ByWeighing v x =
      by_same
      (λ M N bound. ClosesBy M N
      (λ o. ((R : Table) × (o ≡ filled R) × Plain M N bound × Same M N R P) ⊎ ((¬ Plain M N bound) × Weighs f M N bound T (P 1) o))
      ((s n : ℕ) → Within 2 M s → Page N n → signature_in tally N s n ≡ 0) (Same M N (signature_in tally N)) v)
      x
  judged_at f T P tally (BySettling k) v x =
      by_same
      (λ M N bound. ((¬ Plain M N bound) × Weighs f M N bound T (P 1) (asks k))
      × ClosesBy M N (λ o. Settles f M N bound T T (P 1) o) ((s n : ℕ) → Within 2 M s → Page N n → signature_in tally N s n ≡ 0) (Same M N (signature_in tally N)) v)
      x

pub replies_decide : RepliesDecide
replies_decide f l spread own ks ks' b b' way way' v v' last last' x y same among =
    (r.0, r.1, subst (λ N. Same b.terms.farm.stations b.terms.farm.pages (signature_in last' N) (signature_in last b.terms.farm.pages)) (sym same.1) r.2)
  where
    told : AsTold f own b.terms ks (sum_in last b.terms.farm.pages) (signature_in last b.terms.farm.pages)
    told = ((replies_judged f l spread own x.opened ks b (closed way v) x.run).2 last x.one).0

    told' : AsTold f own b'.terms ks' (sum_in last' b'.terms.farm.pages) (signature_in last' b'.terms.farm.pages)
    told' = ((replies_judged f l spread own y.opened ks' b' (closed way' v') y.run).2 last' y.one).0

    judged : JudgedBy f b.terms (sum_in last b.terms.farm.pages) (signature_in last b.terms.farm.pages) last (closed way v)
    judged = ((replies_judged f l spread own x.opened ks b (closed way v) x.run).2 last x.one).1 (sum_in last b.terms.farm.pages) (signature_in last b.terms.farm.pages) told

    judged' : JudgedBy f b.terms (sum_in last b.terms.farm.pages) (signature_in last b.terms.farm.pages) last' (closed way' v')
    judged' =
        judged_at b.terms b'.terms same f (sum_in last b.terms.farm.pages) (signature_in last b.terms.farm.pages) last' way' v'
        (((replies_judged f l spread own y.opened ks' b' (closed way' v') y.run).2 last' y.one).1 (sum_in last b.terms.farm.pages) (signature_in last b.terms.farm.pages)
        (told_at b.terms b'.terms same f own ks' (sum_in last b.terms.farm.pages) (signature_in last b.terms.farm.pages)
        (fewer_told f own b.terms ks' ks (sum_in last b.terms.farm.pages) (signature_in last b.terms.farm.pages) among told)))

    row : (n : ℕ) → Page b.terms.farm.pages n → signature_in last' b.terms.farm.pages 1 n ≡ signature_in last b.terms.farm.pages 1 n
    row n p = subst (λ N. (n : ℕ) → Page N n → signature_in last' N 1 n ≡ entry own n) same.1 told'.own_row n p ∙ sym (told.own_row n p)

    r : (way' ≡ way) × (v' ≡ v) × Same b.terms.farm.stations b.terms.farm.pages (signature_in last' b.terms.farm.pages) (signature_in last b.terms.farm.pages)
    r =
        judged_one f l spread b.terms (shape_kept f l spread own x.opened ks b (closed way v) x.run).pages (sum_in last b.terms.farm.pages)
        (signature_in last b.terms.farm.pages) last' last row way' way v' v judged' judged
