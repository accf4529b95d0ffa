-- Choosing the pages that are roots, one by one.
use Rattle.std.proofs.Common.{◌≡◌, ℕ, ◌+◌, ◌<◌, List, [], ◌∷◌, ◌++◌, map, length, zero, suc, sym, refl, ap, ◌∙◌, arith, length-append}
use Rattle.std.proofs.Math.Decide.{ℕ_discrete}
use Rattle.field.specs.Field.{Ops, power}
use Rattle.solve.specs.declared.candidates.Candidate.{Candidate}
use Rattle.solve.specs.Polynomials.{at}
use Rattle.solve.specs.Candidates.{pages_of, points_of, Roots, FewRoots}
use Rattle.field.specs.declared.limits.TheConstants.{SUM_LIMIT}

-- what stands in a list with one more at its end
before_last : (h : Candidate → ℕ) (cs : List Candidate) (c : Candidate) (i : ℕ) → i < length cs → at (map h (cs ++ c ∷ [])) i ≡ at (map h cs) i
before_last h [] c i b = absurd (omega arith)
before_last h (d ∷ cs) c zero b = refl
before_last h (d ∷ cs) c (suc i) b = before_last h cs c i (omega arith)

at_last : (h : Candidate → ℕ) (cs : List Candidate) (c : Candidate) (i : ℕ) → i ≡ length cs → at (map h (cs ++ c ∷ [])) i ≡ h c
at_last h [] c zero e = refl
at_last h [] c (suc i) e = absurd (omega arith)
at_last h (d ∷ cs) c zero e = absurd (omega arith)
at_last h (d ∷ cs) c (suc i) e = at_last h cs c i (omega arith)

module _ (f : Ops) (q : ℕ → ℕ) (k : ℕ) (cs : List Candidate) (h : Roots f q k cs) where
  -- the next page is no root
  pub skip : ¬ (q (power f f.alpha (k + 1)) ≡ 0) → Roots f q (k + 1) cs
  skip d = record {
    rising = record { rise = h.rising.rise; page = λ i a. let b = h.rising.page i a in (b.0, omega arith); point = h.rising.point };
    root = h.root;
    all = λ n b z. elim (ℕ_discrete n (k + 1)) [ yes e ↦ absurd (d (ap (λ y. q (power f f.alpha y)) (sym e) ∙ z)) | no e ↦ h.all n (b.0, omega arith) z ];
  }

  -- the next page is a root, and joins
  module _ (z : q (power f f.alpha (k + 1)) ≡ 0) (x : ℕ) (is : x ≡ power f f.alpha (k + 1)) where
    abbrev c : Candidate
    c = record { page = k + 1; point = x }

    abbrev pub more : List Candidate
    more = cs ++ c ∷ []

    page_old : (i : ℕ) → i < length cs → at (pages_of more) i ≡ at (pages_of cs) i
    page_old = before_last (λ c. c.page) cs c

    page_new : (i : ℕ) → i ≡ length cs → at (pages_of more) i ≡ k + 1
    page_new = at_last (λ c. c.page) cs c

    point_old : (i : ℕ) → i < length cs → at (points_of more) i ≡ at (points_of cs) i
    point_old = before_last (λ c. c.point) cs c

    point_new : (i : ℕ) → i ≡ length cs → at (points_of more) i ≡ power f f.alpha (k + 1)
    point_new i e = at_last (λ c. c.point) cs c i e ∙ is

    long : length more ≡ length cs + 1
    long = length-append cs (c ∷ [])

    pub join : Roots f q (k + 1) more
    join = record {
      rising = record {
        rise = λ i j a b. elim (ℕ_discrete j (length cs)) [
          | yes e ↦ (let u = page_old i (omega arith) in let v = h.rising.page i (omega arith) in let w = page_new j e in omega arith)
          | no e ↦ (let n = long in let u = page_old i (omega arith) in let v = page_old j (omega arith) in let w = h.rising.rise i j a (omega arith) in omega arith)
        ];
        page = λ i a. elim (ℕ_discrete i (length cs)) [
          | yes e ↦ (let w = page_new i e in omega arith)
          | no e ↦ (let n = long in let u = page_old i (omega arith) in let v = h.rising.page i (omega arith) in omega arith)
        ];
        point = λ i a. let n = long in elim (ℕ_discrete i (length cs)) [
          | yes e ↦ point_new i e ∙ ap (power f f.alpha) (sym (page_new i e))
          | no e ↦ point_old i (omega arith) ∙ h.rising.point i (omega arith) ∙ ap (power f f.alpha) (sym (page_old i (omega arith)))
        ];
      };
      root = λ i a. let n = long in elim (ℕ_discrete i (length cs)) [ yes e ↦ ap q (point_new i e) ∙ z | no e ↦ ap q (point_old i (omega arith)) ∙ h.root i (omega arith) ];
      all = λ n b y. let m = long in elim (ℕ_discrete n (k + 1)) [
        | yes e ↦ (length cs, omega arith, page_new (length cs) refl ∙ sym e)
        | no e ↦ (let r = h.all n (b.0, omega arith) y in let im = r.1 in (r.0, omega arith, page_old r.0 im ∙ r.2))
      ];
    }

    -- there is room for it
    pub joined_fits : (N : ℕ) → FewRoots f q N → k < N → length cs < SUM_LIMIT
    joined_fits N few lt =
        let n = long in
        let most = few (length more) (at (pages_of more)) (at (points_of more))
        (record { rise = join.rising.rise; page = λ i a. let b = join.rising.page i a in (b.0, omega arith); point = join.rising.point }) join.root in
        omega arith
