-- Rows that are filled are codes, if row 1 is.
use mathlib.Core.Path.{sym, subst}
use mathlib.Core.Bool.{Bool, true, false, cond}
use mathlib.Core.Logic.{inl, inr}
use Prim.Native.Nat.{ℕ, ◌<◌}
use lib.Dec.{eqb}
use Rattle.field.specs.Field.{Ops, Laws}
use Rattle.algebra.specs.Vectors.{Codes}
use Rattle.scheme.specs.Farm.{Table, Station, Same}
use Rattle.scheme.specs.Askings.{filled}
use Rattle.scheme.specs.Settling.{SettlesThree}
use Rattle.scheme.specs.Theorem.{Coded}

cond_code : (f : Ops) (b : Bool) (x y : ℕ) → x < f.size → y < f.size → cond b x y < f.size
cond_code f true x y hx hy = hx
cond_code f false x y hx hy = hy

module _ {f : Ops} (l : Laws f) {N : ℕ} {own : ℕ → ℕ} (codes : Codes f N own) where
  moved : (M : ℕ) (Q R : Table) → Same M N R Q → ((s : ℕ) → Codes f N (Q s)) → (s : ℕ) → Station M s → Codes f N (R s)
  moved M Q R same small s a n b = subst (λ x. x < f.size) (sym (same s n a b)) (small s n b)

  three : (bound : ℕ) (T U R : Table) → SettlesThree f N bound T U own (filled R) → (s : ℕ) → Station 3 s → Codes f N (R s)
  three bound T U R x = moved 3 _ R x.6 (λ s n b. cond_code f (eqb s 1) _ _ (codes n b) (cond_code f _ _ _ (l.minus_code _ _) (l.minus_code _ _)))

pub coded : Coded
coded f l M N bound T U own codes R (inl (inl x)) s a = moved l codes M _ R x.1.3 (λ s n b. cond_code f (eqb s 1) _ _ (codes n b) (l.minus_code _ _)) s a
coded f l M N bound T U own codes R (inl (inr x)) s a = three l codes bound T T R x.1.1 s (rw x.0 at a)
coded f l M N bound T U own codes R (inr (inl x)) s a = moved l codes M _ R x.1.5 (λ s n b. cond_code f (eqb s 1) _ _ (codes n b) (l.minus_code _ _)) s a
coded f l M N bound T U own codes R (inr (inr x)) s a = three l codes bound T U R x.1 s (rw x.0 at a)
