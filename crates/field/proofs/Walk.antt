-- The powers of alpha are different, from one computed walk: 1 does not come again before the last place.
use Rattle.std.proofs.Common.{◌≡◌, sym, ap, subst, ◌∙◌, Bool, true, false, ⊎_elim, ℕ, zero, suc, ◌+◌, ◌-◌, ◌%◌, ◌<◌, ◌≤◌, add-suc, add-zero, suc-add, not-suc-le-zero, le_of_suc-le-suc, arith, T, eqb}
use Rattle.std.proofs.lemmas.Bool.{cases_order}
use Rattle.field.specs.Field.{Ops, Laws, Spread, power}
use Rattle.field.proofs.Laws.{one_code, code_mod, times_one_code, power_code, power_add, power_nonzero, times_cancel}

abbrev pub unless : Bool → Bool → Bool
unless true b = false
unless false b = b

pub unless_right : (a b : Bool) → T (unless a b) → T b
unless_right true b t = absurd t
unless_right false b t = t

pub unless_left : (a b : Bool) → T (unless a b) → T a → ⊥
unless_left true b t = λ _. t
unless_left false b t = λ u. u

-- none of x, x alpha, .., n of them, is 1
abbrev pub away : Ops → ℕ → ℕ → Bool
away f x zero = true
away f x (suc n) = unless (eqb x 1) (away f (f.times x f.alpha) n)

module _ {f : Ops} (l : Laws f) where
  away_at : (n m k : ℕ) → T (away f (power f f.alpha (suc m)) n) → k < n → power f f.alpha (suc m + k) ≡ 1 → ⊥
  away_at zero m k t h e = absurd (not-suc-le-zero h)
  away_at (suc n) m zero t h e =
      unless_left _ _ t (subst (λ (x : ℕ). T (eqb x 1)) (sym (ap (power f f.alpha) (sym (add-zero (suc m))) ∙ e)) tt)
  away_at (suc n) m (suc k) t h e =
      away_at n (suc m) k (unless_right _ _ t) (le_of_suc-le-suc h) (ap (power f f.alpha) (suc-add (suc m) k ∙ sym (add-suc (suc m) k)) ∙ e)

  module _ (nonzero : f.alpha % f.size ≡ 0 → ⊥) (n : ℕ) (last : f.places ≡ suc n) (walk : T (away f (power f f.alpha 1) n)) where
    never_again : (i d : ℕ) → d < n → power f f.alpha i ≡ power f f.alpha (i + suc d) → ⊥
    never_again i d h e =
        let a = f.alpha in
        let p = power f a i in
        let nz : p % f.size ≡ 0 → ⊥ = λ z. power_nonzero l a i nonzero (sym (code_mod l p (power_code l a i)) ∙ z) in
        let one : f.times p 1 ≡ f.times p (power f a (suc d)) = times_one_code l p (power_code l a i) ∙ e ∙ power_add l a i (suc d) in
        let back : 1 % f.size ≡ power f a (suc d) % f.size = times_cancel l p 1 (power f a (suc d)) nz one in
        let is : power f a (suc d) ≡ 1 = sym (code_mod l _ (power_code l a (suc d))) ∙ sym back ∙ code_mod l 1 (one_code l) in
        away_at n 0 d walk h (ap (power f a) (let q : suc 0 + d ≡ suc d = omega arith in q) ∙ is)

    less : (i j : ℕ) → 1 ≤ i → j ≤ f.places → i < j → power f f.alpha i ≡ power f f.alpha j → ⊥
    less i j i1 jp h e =
        let d = j - suc i in
        let is : j ≡ i + suc d = omega arith in
        let short : d < n = omega (arith, last) in
        never_again i d short (e ∙ ap (power f f.alpha) is)

    pub spread : Spread f
    spread = record {
      apart = λ i j i1 ip j1 jp e.
          ⊎_elim (λ same. same) (⊎_elim (λ h. absurd (less i j i1 jp h e)) (λ h. absurd (less j i j1 ip h (sym e)))) (cases_order i j);
      nonzero = λ i i1 ip e. power_nonzero l f.alpha i nonzero e;
    }
