-- Values and windows of polynomials, as folds over the coefficients.
use Rattle.std.proofs.Common.{◌≡◌, ℕ, zero, suc, ◌<◌, ◌≤◌, List, [], ◌∷◌, length, reverse, sym, refl, ap, ◌∙◌, arith}
use Rattle.std.specs.List.{fold, zip}
use Rattle.std.proofs.lemmas.List.{reverse-append}
use Rattle.std.proofs.lemmas.List.Sums.{fold_push}
use Rattle.field.specs.Field.{Ops, Laws}
use Rattle.field.proofs.Laws.{code_mod, zero_plus}
use Rattle.solve.specs.Polynomials.{at, value, window}

value_tail : (f : Ops) (k c : ℕ) (cs : List ℕ) (i x : ℕ) → value f k (at (c ∷ cs)) (suc i) x ≡ value f k (at cs) i x
value_tail f zero c cs i x = refl
value_tail f (suc k) c cs i x = ap (λ v. f.plus (f.times v x) (at cs i)) (value_tail f k c cs (suc i) x)

window_tail : (f : Ops) (k c : ℕ) (cs : List ℕ) (i v : ℕ) (vs : List ℕ) (j : ℕ) → window f k (at (c ∷ cs)) (suc i) (at (v ∷ vs)) (suc j) ≡ window f k (at cs) i (at vs) j
window_tail f zero c cs i v vs j = refl
window_tail f (suc k) c cs i v vs j = ap (f.plus (f.times (at cs i) (at vs j))) (window_tail f k c cs (suc i) v vs (suc j))

-- from the last coefficient to the constant
pub value_fold : (f : Ops) (x : ℕ) (cs : List ℕ) → fold (λ v c. f.plus (f.times v x) c) 0 (reverse cs) ≡ value f (length cs) (at cs) 0 x
value_fold f x [] = refl
value_fold f x (c ∷ cs) =
    ap (fold (λ v c. f.plus (f.times v x) c) 0) (reverse-append (c ∷ []) cs)
    ∙ fold_push (λ v c. f.plus (f.times v x) c) 0 (reverse cs) c
    ∙ ap (λ v. f.plus (f.times v x) c) (value_fold f x cs ∙ sym (value_tail f (length cs) c cs 0 x))

-- the terms may be added from the first on
pub window_fold : {f : Ops} (l : Laws f) (cs vs : List ℕ) → length cs ≤ length vs → (a : ℕ) → a < f.size
    → fold (λ s p. f.plus (f.times p.0 p.1) s) a (zip cs vs) ≡ f.plus (window f (length cs) (at cs) 0 (at vs) 0) a
window_fold {f} l [] vs le a code = sym (zero_plus l a ∙ code_mod l a code)
window_fold {f} l (c ∷ cs) [] le a code = absurd (omega arith)
window_fold {f} l (c ∷ cs) (v ∷ vs) le a code =
    window_fold l cs vs (omega arith) (f.plus (f.times c v) a) (l.plus_code _ _)
    ∙ ap (λ w. f.plus w (f.plus (f.times c v) a)) (sym (window_tail f (length cs) c cs 0 v vs 0))
    ∙ sym (l.plus_assoc _ (f.times c v) a)
    ∙ ap (λ w. f.plus w a) (l.plus_comm _ (f.times c v))
