-- Differences by lists of values: what solves one, and how much it weighs.
use Rattle.std.proofs.Common.{◌≡◌, ℕ, zero, suc, ◌+◌, ◌-◌, ◌<◌, ◌≤◌, List, length, get_or, take, add-one, sym, refl, ap, ◌∙◌, subst, inl, inr, arith, length-take-le, get_or-take}
use Rattle.std.proofs.Math.Decide.{dec_le}
use Rattle.std.proofs.lemmas.List.{get_or_past}
use Rattle.field.specs.Field.{Ops, Laws, page_limit, power}
use Rattle.field.specs.Sums.{entry}
use Rattle.algebra.specs.Vectors.{Page, weight, Solves}
use Rattle.algebra.proofs.Weights.{weight_same}
use Rattle.refusal.specs.declared.Refusal.{Refusal}
use Rattle.refusal.specs.Rules.{Refused}
use Rattle.solve.specs.declared.Entry.{Entry}
use Rattle.solve.specs.Solution.{Solution, Enough, solving}
use Rattle.solve.specs.Answer.{blank, code_at, Entries, Solved}
use Rattle.solve.specs.Candidates.{Rising}
use Rattle.solve.specs.Listing.{Nonzeros}
use Rattle.solve.proofs.Weighing.{counted_some}
use Rattle.solve.proofs.Vectors.{vector_weight}
use Rattle.solve.proofs.Solutions.{listed_is}

-- of m codes none is 0
full : (m : ℕ) (v : ℕ → ℕ) → ((i : ℕ) → i < m → ¬ (v i ≡ 0)) → weight m (λ k. v (k - 1)) ≡ m
full zero v some = refl
full (suc m) v some = sym (counted_some (v (suc m - 1)) _ (some (suc m - 1) (omega arith))) ∙ add-one _ ∙ ap suc (full m v (λ i b. some i (omega arith)))

module _ (f : Ops) (N m : ℕ) (list : List Entry) (h : Entries N m list) where
  rising : Rising f N m (λ i. (get_or list i blank).page) (λ i. power f f.alpha (get_or list i blank).page)
  rising = record { rise = h.rising; page = h.pages; point = λ i b. refl }

  nonzeros : Nonzeros m (λ i. (get_or list i blank).page) (λ i. (get_or list i blank).code) m list
  nonzeros = record {
    few = omega arith;
    rising = h.rising;
    stands = λ i b. (i, b, refl, refl);
    some = h.codes;
    all = λ j b some. (j, b, refl);
    rest = h.rest;
  }

  -- a list of m places weighs m
  pub listed_weight : weight N (code_at list) ≡ m
  listed_weight =
      sym (weight_same N _ _ (listed_is f N m _ _ _ rising m list nonzeros))
      ∙ vector_weight f N m _ _ _ rising
      ∙ full m (λ i. (get_or list i blank).code) h.codes

-- the first J places of an array are the values s 1 .. s J
module _ (f : Ops) (N w J : ℕ) (array : List ℕ) (s : ℕ → ℕ) (room : J ≤ length array) (is : (i : ℕ) → i < J → get_or array i 0 ≡ s (i + 1)) where
  abbrev values : List ℕ
  values = take J array

  long : length values ≡ J
  long = length-take-le J array room

  value_is : (j : ℕ) → Page J j → entry values j ≡ s j
  value_is j b = get_or-take J array (j - 1) 0 (omega arith) ∙ is (j - 1) (omega arith) ∙ ap s (let e : j - 1 + 1 ≡ j = omega arith in e)

  by_values : (e : ℕ → ℕ) → Solves f N w J s e → Solution f N w values e
  by_values e x = record {
    codes = x.codes;
    light = x.light;
    sums = λ j b. let l = long in x.sums j (omega arith) ∙ sym (value_is j (omega arith));
  }

  by_sums : (e : ℕ → ℕ) → Solution f N w values e → Solves f N w J s e
  by_sums e x = record {
    codes = x.codes;
    light = x.light;
    sums = λ j b. let l = long in x.sums j (omega arith) ∙ value_is j b;
  }

  pub unsolved : ((e : ℕ → ℕ) → Solution f N w values e → ⊥) → (e : ℕ → ℕ) → Solves f N w J s e → ⊥
  unsolved none e x = none e (by_values e x)

  pub list_solves : (m : ℕ) (list : List Entry) → Solved f N w values m list → Solves f N w J s (code_at list)
  list_solves m list x = by_sums (code_at list) x.solves

  pub list_weighs : (m : ℕ) (list : List Entry) → Solved f N w values m list → (e : ℕ → ℕ) → Solves f N w J s e → weight N e ≡ m
  list_weighs m list x e y = weight_same N e (code_at list) (x.only e (by_values e y)) ∙ listed_weight f N m list x.listed

  -- codes are not refused
  pub not_refused : Laws f → 1 ≤ N → N ≤ page_limit f → Enough N w J → ((j : ℕ) → s j < f.size) → (r : Refusal) → Refused (solving f N w values) r → ⊥
  not_refused l lo hi enough code r (inl x) = x.0 (lo, hi)
  not_refused l lo hi enough code r (inr (_, inl x)) = x.0 (subst (Enough N w) (sym long) enough)
  not_refused l lo hi enough code r (inr (_, inr (_, inl x))) = no_code x.1.0 x.1.1
    where
      no_code : {j : ℕ} → 1 ≤ j → f.size ≤ entry values j → ⊥
      no_code {j} b big = elim (dec_le j J) [
        | yes k ↦ omega (arith, value_is j (b, k), code j)
        | no k ↦ (let n = long in omega (arith, get_or_past values (j - 1) 0 (omega arith), l.size_least))
      ]
  not_refused l lo hi enough code r (inr (_, inr (_, inr x))) = x.1
