-- Where all that an asking asks for was replied to, weighing and settling come to the same by any tables that are as told.
use Rattle.std.proofs.Common.{◌≡◌, ℕ, ◌<◌, List, refl, sym, ◌∙◌, subst, inl, inr, arith}
use native.Mathlib.Decide.{ℕ_discrete, dec_le}
use Rattle.field.specs.Field.{Ops, Laws, Spread, page_limit}
use Rattle.algebra.specs.Vectors.{Page}
use Rattle.refusal.specs.Rules.{Within}
use Rattle.wire.specs.declared.asked.Asked.TheVariants.{Sums}
use Rattle.scheme.specs.Farm.{Table, Station, Same}
use Rattle.scheme.specs.Askings.{first_sums, all_sums, Outcome, over, split, filled, asks}
use Rattle.scheme.specs.Weighing.{Weighs}
use Rattle.scheme.specs.Theorem.{Alike, same_station}
use Rattle.scheme.proofs.Depends.{weighs_depends, settles_depends}
use Rattle.scheme.proofs.AtMostOne.{one_outcome}
use Rattle.tally.specs.Rows.{sum_in, signature_in}
use Rattle.calls.specs.declared.terms.Terms.{Terms}
use Rattle.calls.specs.declared.phases.Verdict.{Verdict}
use Rattle.calls.specs.declared.phases.Verdict.TheVariants.{Report, Split, Over}
use Rattle.calls.specs.Questions.{PlainTerms}
use Rattle.calls.specs.Closing.{WeighsBy, SettleEnds, ClosesWith}
use Rattle.calls.specs.Runs.{Call}
use Rattle.calls.specs.Replies.{Replied, AsTold, FirstReplied, SecondReplied, Unfilled, AsksBy, SettlesBy, ClosedAs}
use Rattle.calls.proofs.AsksOne.{sums_left}
use Rattle.calls.proofs.FirstSums.{firsts_among}

-- of one station alone
pub alike_asks : {M N k : ℕ} (o : Outcome) → Alike M N o (asks k) → o ≡ asks k
alike_asks o same_station = refl

-- a check that closes by some outcomes closes by others that follow from them
pub closes_as : (t : Terms) (Ends True : Outcome → Type 0) → ((o : Outcome) → Ends o → True o) → (before after : List ℕ) → (Ends over → Unfilled t before)
    → ((n : ℕ) → Ends (split n) → Unfilled t before) → (v : Verdict) → ClosesWith Ends t.farm.stations t.farm.pages before after v → ClosedAs t after True v
closes_as t Ends True true before after none_over none_split Over x = (true over x.0, subst (Unfilled t) (sym x.1) (none_over x.0))
closes_as t Ends True true before after none_over none_split (Split n) (inl x) = inl (true (split n) x.0, subst (Unfilled t) (sym x.1) (none_split n x.0))
closes_as t Ends True true before after none_over none_split (Split n) (inr x) = inr (x.0, true (filled x.0) x.1, x.2.rows, x.3)
closes_as t Ends True true before after none_over none_split Report x = (x.0, true (filled x.0) x.1, x.2.rows, x.3)

-- weighing closes a check that is plain on filled rows alone
pub over_not_plain : (f : Ops) (t : Terms) (T P : Table) → WeighsBy f t T P over → ¬ PlainTerms t
over_not_plain f t T P (inl x) = absurd (let e = x.1 in cc)
over_not_plain f t T P (inr x) = x.0

pub split_not_plain : (f : Ops) (t : Terms) (T P : Table) (n : ℕ) → WeighsBy f t T P (split n) → ¬ PlainTerms t
split_not_plain f t T P n (inl x) = absurd (let e = x.1 in cc)
split_not_plain f t T P n (inr x) = x.0

module _ (f : Ops) (own : List ℕ) (t : Terms) (ks : List Call) (T P T' P' : Table) (a : AsTold f own t ks T P) (b : AsTold f own t ks T' P')
    (firsts : FirstReplied ks t) where
  same_own : (n : ℕ) → Page t.farm.pages n → P 1 n ≡ P' 1 n
  same_own n p = a.own_row n p ∙ sym (b.own_row n p)

  -- a sum that was replied to
  same_sum : (s j : ℕ) → (v : ℕ) × Replied ks Sums s j v → T s j ≡ T' s j
  same_sum s j r = a.sums s j r.0 r.1 ∙ sym (b.sums s j r.0 r.1)

  same_own_sums : (j : ℕ) → Page (all_sums t.farm.pages t.farm.bound) j → T 1 j ≡ T' 1 j
  same_own_sums j p = a.own_sums j p ∙ sym (b.own_sums j p)

  module _ (not : ¬ PlainTerms t) where
    same_firsts : (s j : ℕ) → Station t.farm.stations s → Page (first_sums t.farm.stations t.farm.bound) j → T s j ≡ T' s j
    same_firsts s j st p = elim (ℕ_discrete s 1) [
      | yes e ↦
          let le = firsts_among t.farm.stations t.farm.pages t.farm.bound t.farm.stations_in.0 t.farm.bound_in.0 not in
          subst (λ s. T s j ≡ T' s j) (sym e) (same_own_sums j (omega arith))
      | no d ↦ elim (firsts s (omega arith)) [
        | inl x ↦ absurd (not x.0)
        | inr x ↦ same_sum s j (x.1 j p)
      ]
    ]

    weighs_as : (o : Outcome) → Weighs f t.farm.stations t.farm.pages t.farm.bound T (P 1) o → Weighs f t.farm.stations t.farm.pages t.farm.bound T' (P' 1) o
    weighs_as = weighs_depends f t.farm.stations t.farm.pages t.farm.bound T T' (P 1) (P' 1) same_firsts same_own

  same_rows : PlainTerms t → Same t.farm.stations t.farm.pages P P'
  same_rows plain s n st p = elim (ℕ_discrete s 1) [
    | yes e ↦ subst (λ s. P s n ≡ P' s n) (sym e) (same_own n p)
    | no d ↦ elim (firsts s (omega arith)) [
      | inl x ↦ let r = x.1 n p in a.signatures s n r.0 r.1 ∙ sym (b.signatures s n r.0 r.1)
      | inr x ↦ absurd (x.0 plain)
    ]
  ]

  pub weigh_as : (o : Outcome) → WeighsBy f t T P o → WeighsBy f t T' P' o
  weigh_as o (inl x) = inl (x.0, x.1, x.2, λ s n st p. x.3 s n st p ∙ same_rows x.2 s n st p)
  weigh_as o (inr (not, w)) = inr (not, weighs_as not o w)

  pub asks_as : (k : ℕ) → WeighsBy f t T P (asks k) → AsksBy f t T' P' k
  asks_as k (inl x) = absurd (let e = x.1 in cc)
  asks_as k (inr (not, w)) = (not, weighs_as not (asks k) w)

  module _ (l : Laws f) (spread : Spread f) (pages : Within 1 (page_limit f) t.farm.pages) (k : ℕ) (station : Within 2 t.farm.stations k) (seconds : SecondReplied ks t k)
      (judged : AsksBy f t T' P' k) where
    -- station k told all sums
    same_all : (j : ℕ) → Page (all_sums t.farm.pages t.farm.bound) j → T k j ≡ T' k j
    same_all j p = elim (dec_le j (first_sums t.farm.stations t.farm.bound)) [
      | yes le ↦ same_firsts judged.0 k j (omega arith) (omega arith)
      | no late ↦ same_sum k j (seconds j (omega arith))
    ]

    -- weighing again comes to nothing else
    pub asked_one : (o : Outcome) → Weighs f t.farm.stations t.farm.pages t.farm.bound T (P 1) o → o ≡ asks k
    asked_one o w =
        alike_asks o ((one_outcome f l spread t.farm.stations t.farm.pages t.farm.bound (omega (arith, pages.1)) T' T' (P' 1) o (asks k)).0 (weighs_as judged.0 o w) judged.1)

    more : t.farm.stations ≡ 3 → first_sums 3 t.farm.bound < all_sums t.farm.pages t.farm.bound
    more three =
        subst (λ M. first_sums M t.farm.bound < all_sums t.farm.pages t.farm.bound) three
        (sums_left f t.farm.stations t.farm.pages t.farm.bound T' (P' 1) k t.farm.bound_in.0 judged.0 judged.1)

    pub settle_as : (o : Outcome) → SettlesBy f t T P o → SettlesBy f t T' P' o
    settle_as =
        settles_depends f t.farm.stations t.farm.pages t.farm.bound T T' (P 1) (P' 1) (same_firsts judged.0) same_own more T T' same_own_sums
        (λ i j w p. let same : i ≡ k = (let e = asked_one (asks i) w in cc) in subst (λ i. T i j ≡ T' i j) (sym same) (same_all j p))

-- settling a tally comes to what the rules say of any tables that are as told
pub settle_ends_as : (f : Ops) (own : List ℕ) (t : Terms) (ks : List Call) (tally : List ℕ) (T P : Table)
    → AsTold f own t ks (sum_in tally t.farm.pages) (signature_in tally t.farm.pages) → AsTold f own t ks T P → FirstReplied ks t → Laws f → Spread f
    → Within 1 (page_limit f) t.farm.pages → (k : ℕ) → Within 2 t.farm.stations k → SecondReplied ks t k → AsksBy f t T P k
    → (o : Outcome) → SettleEnds f t tally o → SettlesBy f t T P o
settle_ends_as f own t ks tally T P a b firsts l spread pages k station seconds judged = ends
  where
    one : (o : Outcome) → Weighs f t.farm.stations t.farm.pages t.farm.bound (sum_in tally t.farm.pages) (signature_in tally t.farm.pages 1) o → o ≡ asks k
    one = asked_one f own t ks (sum_in tally t.farm.pages) (signature_in tally t.farm.pages) T P a b firsts l spread pages k station seconds judged

    settles : (o : Outcome) → SettlesBy f t (sum_in tally t.farm.pages) (signature_in tally t.farm.pages) o → SettlesBy f t T P o
    settles = settle_as f own t ks (sum_in tally t.farm.pages) (signature_in tally t.farm.pages) T P a b firsts l spread pages k station seconds judged

    ends : (o : Outcome) → SettleEnds f t tally o → SettlesBy f t T P o
    ends over (inl w) = absurd (let e = one over w in cc)
    ends over (inr x) = settles over x.1
    ends (split n) (inl w) = absurd (let e = one (split n) w in cc)
    ends (split n) (inr x) = settles (split n) x.1
    ends (filled R) (inl w) = absurd (let e = one (filled R) w in cc)
    ends (filled R) (inr x) = settles (filled R) x.1
    ends (asks i) x = absurd x
