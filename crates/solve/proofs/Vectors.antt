-- The vector that has given codes on given pages: its entries, its weight and its sums.
use Rattle.std.proofs.Common.{◌≡◌, ℕ, zero, suc, ◌-◌, ◌*◌, ◌<◌, cond, eqb, ◌≢◌, ◌⊎◌, sym, refl, ap, ◌∙◌, ap₂, inl, inr, mul_comm, arith, eq-eqb, ne_eqb}
use Rattle.std.proofs.Math.Nat.{zero-mod}
use Rattle.std.proofs.Math.Decide.{ℕ_discrete}
use Rattle.field.specs.Field.{Ops, Laws, power}
use Rattle.field.specs.Sums.{total, power_sum}
use Rattle.field.proofs.Laws.{code_mod, times_zero, power_mul, total_code}
use Rattle.algebra.specs.Vectors.{Page, counted, weight}
use Rattle.algebra.proofs.Weights.{weight_at}
use Rattle.solve.specs.Candidates.{Rising, Among}

-- v i on page g i, i below m, and 0 elsewhere
abbrev pub vector : ℕ → (g v : ℕ → ℕ) → ℕ → ℕ
vector zero g v n = 0
vector (suc m) g v n = cond (eqb (g m) n) (v m) (vector m g v n)

pub vector_off : (m : ℕ) (g v : ℕ → ℕ) (n : ℕ) → ((i : ℕ) → i < m → ¬ (g i ≡ n)) → vector m g v n ≡ 0
vector_off zero g v n h = refl
vector_off (suc m) g v n h = ap (λ b. cond b (v m) (vector m g v n)) (ne_eqb (g m) n (h m (omega arith))) ∙ vector_off m g v n (λ i b. h i (omega arith))

-- on another page than the last
vector_before : (m : ℕ) (g v : ℕ → ℕ) (n : ℕ) → n ≢ g m → vector (suc m) g v n ≡ vector m g v n
vector_before m g v n d = ap (λ b. cond b (v m) (vector m g v n)) (ne_eqb (g m) n (λ e. d (sym e)))

-- on the last page
vector_last : (m : ℕ) (g v : ℕ → ℕ) → vector (suc m) g v (g m) ≡ v m
vector_last m g v = ap (λ b. cond b (v m) (vector m g v (g m))) (eq-eqb (g m) (g m) refl)

pub vector_at : (m : ℕ) (g v : ℕ → ℕ) → ((i j : ℕ) → i < j → j < m → g i < g j) → (i : ℕ) → i < m → vector m g v (g i) ≡ v i
vector_at zero g v rise i b = absurd (omega arith)
vector_at (suc m) g v rise i b = elim (ℕ_discrete i m) [
  | yes e ↦ ap (λ k. vector (suc m) g v (g k)) e ∙ vector_last m g v ∙ ap v (sym e)
  | no d ↦ vector_before m g v (g i) (λ e. let w = rise i m (omega arith) (omega arith) in omega arith) ∙ vector_at m g v (λ i j a c. rise i j a (omega arith)) i (omega arith)
]

pub among : (m : ℕ) (g : ℕ → ℕ) (n : ℕ) → Among m g n ⊎ ((i : ℕ) → i < m → ¬ (g i ≡ n))
among zero g n = inr (λ i b. absurd (omega arith))
among (suc m) g n = elim (ℕ_discrete (g m) n) [
  | yes e ↦ inl (m, omega arith, e)
  | no d ↦ elim (among m g n) [
    | inl r ↦ inl (r.0, (let b = r.1 in omega arith), r.2)
    | inr h ↦ inr (λ i b. elim (ℕ_discrete i m) [ yes w ↦ (λ z. d (ap g (sym w) ∙ z)) | no w ↦ h i (omega arith) ])
  ]
]

fewer : {f : Ops} {N m : ℕ} {g x : ℕ → ℕ} → Rising f N (suc m) g x → Rising f N m g x
fewer r = record { rise = λ i j a b. r.rise i j a (omega arith); page = λ i a. r.page i (omega arith); point = λ i a. r.point i (omega arith) }

-- the last page is new
fresh : {f : Ops} {N : ℕ} (m : ℕ) {g x : ℕ → ℕ} → Rising f N (suc m) g x → (i : ℕ) → i < m → ¬ (g i ≡ g m)
fresh m r i b e = let w = r.rise i m b (omega arith) in omega arith

pub vector_weight : (f : Ops) (N m : ℕ) (g x v : ℕ → ℕ) → Rising f N m g x → weight N (vector m g v) ≡ weight m (λ k. v (k - 1))
vector_weight f N zero g x v r = none N
  where
    none : (N : ℕ) → weight N (λ n. 0) ≡ 0
    none zero = refl
    none (suc N) = none N
vector_weight f N (suc m) g x v r =
    weight_at N (vector m g v) (vector (suc m) g v) (g m) (r.page m (omega arith)) (vector_off m g v (g m) (fresh m r)) (vector_before m g v)
    ∙ ap₂ counted (vector_last m g v ∙ ap v (let e : m ≡ suc m - 1 = omega arith in e)) (vector_weight f N m g x v (fewer r))

pub total_same : (f : Ops) (N : ℕ) (d e : ℕ → ℕ) → ((n : ℕ) → Page N n → d n ≡ e n) → total f N d ≡ total f N e
total_same f zero d e h = refl
total_same f (suc N) d e h = ap₂ f.plus (total_same f N d e (λ n b. h n (omega arith))) (h (suc N) (omega arith))

module _ {f : Ops} (l : Laws f) where
  total_none : (N : ℕ) (e : ℕ → ℕ) → ((n : ℕ) → e n ≡ 0) → total f N e ≡ 0
  total_none zero e h = refl
  total_none (suc N) e h = ap₂ f.plus (total_none N e h) (h (suc N)) ∙ l.plus_zero 0 ∙ zero-mod f.size

  -- two functions that differ on page n alone, where d is 0
  total_at : (N : ℕ) (d e : ℕ → ℕ) (n : ℕ) → Page N n → d n ≡ 0 → ((m : ℕ) → m ≢ n → e m ≡ d m) → total f N e ≡ f.plus (total f N d) (e n)
  total_at zero d e n b z h = absurd (omega arith)
  total_at (suc N) d e n b z h = elim (ℕ_discrete n (suc N)) [
    | yes is ↦
        ap₂ f.plus
        (total_same f N e d (λ m c. h m (omega arith)) ∙ sym (ap (f.plus (total f N d)) (ap d (sym is) ∙ z) ∙ l.plus_zero (total f N d) ∙ code_mod l _ (total_code l N d)))
        (ap e (sym is))
    | no apart ↦
        ap₂ f.plus (total_at N d e n (omega arith) z h) (h (suc N) (λ is. apart (sym is)))
        ∙ l.plus_assoc (total f N d) (e n) (d (suc N)) ∙ ap (f.plus (total f N d)) (l.plus_comm (e n) (d (suc N))) ∙ sym (l.plus_assoc (total f N d) (d (suc N)) (e n))
  ]

  pub vector_sum : (N : ℕ) (g x v : ℕ → ℕ) (j m : ℕ) → Rising f N m g x → total f m (λ k. f.times (v (k - 1)) (power f (x (k - 1)) j)) ≡ power_sum f N (vector m g v) j
  vector_sum N g x v j zero r = sym (total_none N _ (λ n. l.times_comm 0 _ ∙ times_zero l _))
  vector_sum N g x v j (suc m) r =
      ap₂ f.plus (vector_sum N g x v j m (fewer r)) here
      ∙ sym (total_at N (λ n. f.times (vector m g v n) (power f f.alpha (j * n))) (λ n. f.times (vector (suc m) g v n) (power f f.alpha (j * n))) (g m) (r.page m (omega arith))
      (ap (λ z. f.times z (power f f.alpha (j * g m))) (vector_off m g v (g m) (fresh m r)) ∙ l.times_comm 0 _ ∙ times_zero l _)
      (λ n d. ap (λ z. f.times z (power f f.alpha (j * n))) (vector_before m g v n d)))
    where
      here : f.times (v (suc m - 1)) (power f (x (suc m - 1)) j) ≡ f.times (vector (suc m) g v (g m)) (power f f.alpha (j * g m))
      here =
          ap (λ i. f.times (v i) (power f (x i) j)) (let e : suc m - 1 ≡ m = omega arith in e)
          ∙ ap₂ f.times (sym (vector_last m g v))
          (ap (λ y. power f y j) (r.point m (omega arith)) ∙ sym (power_mul l f.alpha (g m) j) ∙ ap (power f f.alpha) (mul_comm (g m) j))
