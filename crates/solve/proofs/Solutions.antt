-- The codes that are forced at the candidates are the one solution, or there is none.
use Rattle.std.proofs.Common.{◌≡◌, ℕ, ◌*◌, ◌<◌, ◌≤◌, Bool, true, false, List, length, get_or, Decides, sym, refl, ap, ◌∙◌, subst, inl, inr, arith}
use Rattle.std.proofs.Math.Decide.{ℕ_discrete, dec_le}
use Rattle.std.proofs.lemmas.Bool.Decides.{not_from_Decides}
use Rattle.field.specs.Field.{Ops, Laws, power}
use Rattle.algebra.specs.Vectors.{Page}
use Rattle.algebra.proofs.Weights.{weight_same}
use Rattle.algebra.proofs.Codes.{zero_code}
use Rattle.solve.specs.declared.Entry.{Entry}
use Rattle.solve.specs.Solution.{Solution}
use Rattle.solve.specs.Answer.{blank, code_at, Entries, Solved}
use Rattle.solve.specs.declared.candidates.Candidate.{Candidate}
use Rattle.solve.specs.declared.entries.Coded.{Coded}
use Rattle.solve.specs.Polynomials.{at}
use Rattle.solve.specs.Candidates.{pages_of, points_of, candidates_of, codes_of, Rising, Covers, Forced, Verified}
use Rattle.solve.specs.Listing.{Nonzeros, NonzerosOf}
use Rattle.solve.proofs.Vectors.{vector, vector_off, vector_at, vector_weight, vector_sum, among, total_same}
use Rattle.solve.proofs.Listings.{code_at_none, code_at_first}

-- what holds of a vector holds of one that is equal on each page
same_solution : (f : Ops) (N t : ℕ) (values : List ℕ) (d e : ℕ → ℕ) → ((n : ℕ) → Page N n → d n ≡ e n) → Solution f N t values d → Solution f N t values e
same_solution f N t values d e same sol = record {
  codes = λ n b. subst (λ (y : ℕ). y < f.size) (same n b) (sol.codes n b);
  light = omega (arith, weight_same N d e same, sol.light);
  sums = λ j b. total_same f N _ _ (λ n c. ap (λ y. f.times y (power f f.alpha (j * n))) (sym (same n c))) ∙ sol.sums j b;
}

-- the list gives each page what the candidates give it
module _ (f : Ops) (N m : ℕ) (g x v : ℕ → ℕ) (r : Rising f N m g x) (k : ℕ) (list : List Entry) (h : Nonzeros m g v k list) where
  -- pages from place k on are 0
  beyond : (i : ℕ) → k ≤ i → (get_or list i blank).page ≡ 0
  beyond i b = ap (λ y. y.page) (h.rest i b)

  unlisted : (n : ℕ) → 1 ≤ n → ((i : ℕ) → i < k → ¬ ((get_or list i blank).page ≡ n)) → code_at list n ≡ 0
  unlisted n lo off = code_at_none list n (λ i is. elim (dec_le k i) [ yes b ↦ (let z = beyond i b in omega arith) | no b ↦ off i (omega arith) is ])

  one_place : (i j : ℕ) → i < m → j < m → g i ≡ g j → i ≡ j
  one_place i j a b e = elim (ℕ_discrete i j) [
    | yes is ↦ is
    | no d ↦ absurd (elim (dec_le i j) [ yes le ↦ (let w = r.rise i j (omega arith) b in omega arith) | no le ↦ (let w = r.rise j i (omega arith) a in omega arith) ])
  ]

  candidate : (j : ℕ) → j < m → code_at list (g j) ≡ v j
  candidate j b = elim (ℕ_discrete (v j) 0) [
    | yes z ↦
        unlisted (g j) (r.page j b).0 (λ i c is. let s = h.stands i c in h.some i c (s.3 ∙ ap v (one_place s.0 j s.1 b (sym s.2 ∙ is)) ∙ z)) ∙ sym z
    | no some ↦ (let s = h.all j b some in
        let p = h.stands s.0 s.1 in
        let lo = r.page j b in
        code_at_first list (g j) s.0 (λ z. omega arith) (λ i c. before s.0 s.1 j s.2 i c) s.2 ∙ p.3 ∙ ap v (one_place p.0 j p.1 b (sym p.2 ∙ s.2)))
  ]
    where
      before : (i : ℕ) → i < k → (j : ℕ) → (get_or list i blank).page ≡ g j → (a : ℕ) → a < i → ¬ ((get_or list a blank).page ≡ 0) × ¬ ((get_or list a blank).page ≡ g j)
      before i b j is a c =
          let s = h.stands a (omega arith) in
          let lo = r.page s.0 s.1 in
          let up = h.rising a i c b in
          let at = s.2 in
          ((λ z. omega arith), λ z. omega arith)

  pub listed_is : (n : ℕ) → Page N n → vector m g v n ≡ code_at list n
  listed_is n b = elim (among m g n) [
    | inl s ↦ ap (vector m g v) (sym s.2) ∙ vector_at m g v r.rise s.0 s.1 ∙ sym (candidate s.0 s.1) ∙ ap (code_at list) s.2
    | inr off ↦ vector_off m g v n off ∙ sym (unlisted n b.0 (λ i c is. let s = h.stands i c in off s.0 s.1 (sym s.2 ∙ is)))
  ]

  listed : k < length list → Entries N k list
  listed fits = record {
    fits = fits;
    rising = h.rising;
    pages = λ i b. let s = h.stands i b in subst (λ (n : ℕ). Page N n) (sym s.2) (r.page s.0 s.1);
    codes = h.some;
    rest = h.rest;
  }

module _ {f : Ops} (l : Laws f) (N t : ℕ) (values : List ℕ) (cs : List Candidate) (cover : Covers f N t values cs) (coded : List Coded) (same : candidates_of coded ≡ cs)
    (small : (i : ℕ) → i < length cs → at (codes_of coded) i < f.size) (forced : Forced f N cs values (codes_of coded)) where
  abbrev m : ℕ
  m = length cs

  abbrev g : ℕ → ℕ
  g = at (pages_of cs)

  abbrev x : ℕ → ℕ
  x = at (points_of cs)

  abbrev v : ℕ → ℕ
  v = at (codes_of coded)

  only : (e : ℕ → ℕ) → Solution f N t values e → (n : ℕ) → Page N n → e n ≡ vector m g v n
  only e sol n b = elim (among m g n) [
    | inl s ↦
        ap e (sym s.2) ∙ forced e sol.codes (cover.covers e sol) (λ j c. sol.sums j (let known = cover.known in omega arith)) s.0 s.1
        ∙ sym (vector_at m g v cover.rising.rise s.0 s.1) ∙ ap (vector m g v) s.2
    | inr off ↦ elim (ℕ_discrete (e n) 0) [
      | yes z ↦ z ∙ sym (vector_off m g v n off)
      | no some ↦ (let s = cover.covers e sol n b some in absurd (off s.0 s.1 s.2))
    ]
  ]

  solves : Verified f cs (codes_of coded) t values → Solution f N t values (vector m g v)
  solves right = record {
    codes = λ n b. elim (among m g n) [
      | inl s ↦ subst (λ (y : ℕ). y < f.size) (sym (ap (vector m g v) (sym s.2) ∙ vector_at m g v cover.rising.rise s.0 s.1)) (small s.0 s.1)
      | inr off ↦ subst (λ (y : ℕ). y < f.size) (sym (vector_off m g v n off)) (zero_code l)
    ];
    light = omega (arith, vector_weight f N m g x v cover.rising, right.0);
    sums = λ j b. sym (vector_sum l N g x v j m cover.rising) ∙ right.1 j b;
  }

  by_candidates : (r : Bool) → Decides r (Verified f (candidates_of coded) (codes_of coded) t values) → Decides r (Verified f cs (codes_of coded) t values)
  by_candidates r h = subst (λ ds. Decides r (Verified f ds (codes_of coded) t values)) same h

  -- there is no solution if these codes are too many or have other sums
  pub unsolvable : Decides false (Verified f (candidates_of coded) (codes_of coded) t values) → (e : ℕ → ℕ) → Solution f N t values e → ⊥
  unsolvable wrong e sol = not_from_Decides false (by_candidates false wrong) refl (
    omega (arith, weight_same N e (vector m g v) (only e sol), vector_weight f N m g x v cover.rising, sol.light),
    λ j b. vector_sum l N g x v j m cover.rising
        ∙ total_same f N _ _ (λ n c. ap (λ y. f.times y (power f f.alpha (j * n))) (sym (only e sol n c))) ∙ sol.sums j b,
  )

  pub solved : Decides true (Verified f (candidates_of coded) (codes_of coded) t values) → (k : ℕ) (list : List Entry) → k < length list
      → NonzerosOf (candidates_of coded) (codes_of coded) k list → Solved f N t values k list
  solved right k list fits found =
      let h : Nonzeros m g v k list = subst (λ ds. NonzerosOf ds (codes_of coded) k list) same found in
      record {
        listed = listed f N m g x v cover.rising k list h fits;
        solves = same_solution f N t values (vector m g v) (code_at list) (listed_is f N m g x v cover.rising k list h) (solves ((by_candidates true right).0 refl));
        only = λ e sol n b. only e sol n b ∙ listed_is f N m g x v cover.rising k list h n b;
      }
