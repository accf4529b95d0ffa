-- Candidates cover the solutions: all the pages do, and so do the roots of a locator.
use Rattle.std.proofs.Common.{◌≡◌, ℕ, zero, suc, ◌+◌, ◌<◌, ◌≤◌, List, length, sym, refl, ap, ◌∙◌, arith}
use Rattle.field.specs.Field.{Ops, Laws, Spread}
use Rattle.solve.specs.declared.candidates.Candidate.{Candidate}
use Rattle.solve.specs.Polynomials.{at, value, Locates}
use Rattle.solve.specs.Candidates.{Rising, Roots, Covers}
use Rattle.solve.proofs.Recovery.{fewer_roots, at_roots}

above : (f : Ops) (N m : ℕ) (g x : ℕ → ℕ) → Rising f N m g x → (i : ℕ) → i < m → i < g i
above f N m g x r zero b = (r.page 0 b).0
above f N m g x r (suc i) b = let w = above f N m g x r i (omega arith) in let u = r.rise i (suc i) (omega arith) b in omega arith

-- there are no more rising pages than pages
pub fewer_pages : (f : Ops) (N m : ℕ) (g x : ℕ → ℕ) → Rising f N m g x → m ≤ N
fewer_pages f N zero g x r = omega arith
fewer_pages f N (suc m) g x r = let w = above f N (suc m) g x r m (omega arith) in let u = r.page m (omega arith) in omega arith

pub covers_all : (f : Ops) (N t : ℕ) (values : List ℕ) → length values ≡ N → (p : ℕ → ℕ) (cs : List Candidate) → Roots f (value f 0 p 0) N cs → Covers f N t values cs
covers_all f N t values all p cs roots = record {
  rising = roots.rising;
  known = let w = fewer_pages f N _ _ _ roots.rising in omega arith;
  covers = λ e sol n b some. roots.all n b refl;
}

module _ {f : Ops} (l : Laws f) (spread : Spread f) (N : ℕ) (le : N ≤ f.places) (t : ℕ) (values p : List ℕ) (loc : Locates f t (at values) p) where
  -- a locator has at most t roots
  pub few_located : (m : ℕ) (g x : ℕ → ℕ) → Rising f N m g x → ((i : ℕ) → i < m → value f (length p) (at p) 0 (x i) ≡ 0) → m ≤ t
  few_located m g x r root =
      let short = loc.short in
      let w = fewer_roots l spread N le loc.degree (at p) loc.monic m g x r (λ i b. ap (λ n. value f n (at p) 0 (x i)) (sym loc.terms) ∙ root i b) in
      omega arith

  pub covers_located : t + t ≤ length values → (cs : List Candidate) → Roots f (value f (length p) (at p) 0) N cs → Covers f N t values cs
  covers_located two cs roots = record {
    rising = roots.rising;
    known = let w = few_located _ _ _ roots.rising roots.root in omega arith;
    covers = λ e sol n b some. roots.all n b (at_roots l spread N le values (length values) e sol.codes sol.sums t sol.light two p loc n b some);
  }
