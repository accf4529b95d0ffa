-- The search for a locator: what holds at each turn, and that each turn keeps it.
use Rattle.std.proofs.Common.{◌≡◌, ℕ, suc, ◌+◌, ◌-◌, ◌<◌, ◌≤◌, List, length, take, length-take-le, get_or-take, add-one, sym, refl, ap, ◌∙◌, subst, ap₂, arith}
use Rattle.std.proofs.Math.Decide.{ℕ_discrete}
use Rattle.field.specs.Field.{Ops, Laws}
use Rattle.field.proofs.Laws.{code_mod, one_code}
use Rattle.solve.specs.Polynomials.{at, window, Locates}
use Rattle.solve.proofs.Words.{window_code}
use Rattle.solve.proofs.Windows.{shifted_high, shifted_none, minus_self, minus_none, Difference, window_end, window_difference, window_front_of}
use Rattle.solve.specs.declared.limits.TheConstants.{COEFFICIENTS}

-- p is monic of degree d and clears the windows before k; w is 0 above place k, clears the windows before d - 1, and gives last there
pub record Held (f : Ops) (t : ℕ) (s p w : ℕ → ℕ) (last d k : ℕ) : Type 0 where
  -- how many places there are: as a field, so that nothing computes with it
  pub n : ℕ
  pub is : n ≡ COEFFICIENTS
  pub short : d ≤ t
  pub reach : k ≤ t
  pub monic : p d ≡ 1
  pub high : (i : ℕ) → d < i → i < n → p i ≡ 0
  pub clears : (j : ℕ) → j < k → window f n p 0 s j ≡ 0
  pub back_high : (i : ℕ) → k < i → i < n → w i ≡ 0
  pub back_clears : (j : ℕ) → suc j < d → window f n w 0 s j ≡ 0
  pub back_last : 0 < d → window f n w 0 s (d - 1) ≡ last
  pub last_code : last < f.size
  pub last_some : ¬ (last ≡ 0)

module _ {f : Ops} (l : Laws f) where
  -- x less x over b times b
  cancelled : (x b u v : ℕ) → x < f.size → b < f.size → ¬ (b ≡ 0) → u ≡ x → v ≡ b → f.minus u (f.times (f.times x (f.inverse b)) v) ≡ 0
  cancelled x b u v hx hb nz eu ev =
      let e : f.times (f.times x (f.inverse b)) b ≡ x =
      l.times_assoc x (f.inverse b) b ∙ ap (f.times x) (l.times_comm (f.inverse b) b ∙ l.times_inverse b (λ z. nz (sym (code_mod l b hb) ∙ z))) ∙ l.times_one x ∙ code_mod l x hx in
      ap₂ (λ y z. f.minus y (f.times (f.times x (f.inverse b)) z)) eu ev ∙ ap (f.minus x) e ∙ minus_self l x

  module _ (t : ℕ) (small : t ≤ 64) (s : ℕ → ℕ) where
    -- above its degree p has only zeros
    whole : (p w : ℕ → ℕ) (last d k : ℕ) (h : Held f t s p w last d k) (j : ℕ) → window f h.n p 0 s j ≡ window f (suc d) p 0 s j
    whole p w last d k h j =
        let m = h.n - suc d in
        let is = h.is in
        let short = h.short in
        let e : h.n ≡ suc d + m = omega arith in
        ap (λ x. window f x p 0 s j) e ∙ window_end l (suc d) m p 0 s j (λ i b. h.high (0 + suc d + i) (omega arith) (omega arith))

    -- p clears one window more as it is
    pub stay : (p w : ℕ → ℕ) (last d k : ℕ) → Held f t s p w last d k → k < t → window f (suc d) p 0 s k ≡ 0 → Held f t s p w last d (k + 1)
    stay p w last d k h lt z = record {
      n = h.n;
      is = h.is;
      short = h.short;
      reach = omega arith;
      monic = h.monic;
      high = h.high;
      clears = λ j b. elim (ℕ_discrete j k) [ yes e ↦ ap (window f h.n p 0 s) e ∙ whole p w last d k h k ∙ z | no e ↦ h.clears j (omega arith) ];
      back_high = λ i a b. h.back_high i (omega arith) b;
      back_clears = h.back_clears;
      back_last = h.back_last;
      last_code = h.last_code;
      last_some = h.last_some;
    }

    -- p less a multiple of w clears one window more
    pub mend : (p w : ℕ → ℕ) (last d k : ℕ) → Held f t s p w last d k → k < t → k < d → (x : ℕ) → x ≡ window f (suc d) p 0 s k
        → (r : ℕ → ℕ) → Difference f COEFFICIENTS r p 0 (f.times x (f.inverse last)) w (d - 1 - k) → Held f t s r w last d (k + 1)
    mend p w last d k h lt lt2 x ex r made =
        let n = h.n in
        let is = h.is in
        let short = h.short in
        let b = d - 1 - k in
        let c = f.times x (f.inverse last) in
        let two = one_code l in
        let hx : x < f.size = subst (λ y. y < f.size) (sym ex) (window_code l (suc d) p 0 s k) in
        let mad : Difference f n r p 0 c w b = λ i a. made i (omega arith) in
        let win = window_difference l n r p 0 c w b mad (omega arith) (omega arith) (λ i u v. absurd (omega arith)) (λ i u v. h.back_high i (omega arith) v) s in
        record {
          n = n;
          is = is;
          short = short;
          reach = omega arith;
          monic = made d (omega arith) ∙ minus_none l 1 c _ _ (shifted_none p d ∙ h.monic) (shifted_high b w d (omega arith) ∙ h.back_high (d - b) (omega arith) (omega arith)) two;
          high = λ i u v. made i (omega arith) ∙ minus_none l 0 c _ _ (shifted_none p i ∙ h.high i u v) (shifted_high b w i (omega arith) ∙ h.back_high (i - b) (omega arith) (omega arith)) (omega arith);
          clears = λ j u. elim (ℕ_discrete j k) [
            | yes e ↦ win j ∙ cancelled x last _ _ hx h.last_code h.last_some
                (ap (window f n p 0 s) (let q : j + 0 ≡ k = omega arith in q) ∙ whole p w last d k h k ∙ sym ex)
                (ap (window f n w 0 s) (let q : j + b ≡ d - 1 = omega arith in q) ∙ h.back_last (omega arith))
            | no e ↦ win j ∙ minus_none l 0 c _ _ (h.clears (j + 0) (omega arith)) (h.back_clears (j + b) (omega arith)) (omega arith)
          ];
          back_high = λ i u v. h.back_high i (omega arith) v;
          back_clears = h.back_clears;
          back_last = h.back_last;
          last_code = h.last_code;
          last_some = h.last_some;
        }

    -- p moved up, less a multiple of w, takes the place of p, and p that of w
    pub grow : (p w : ℕ → ℕ) (last d k : ℕ) → Held f t s p w last d k → k < t → d ≤ k → (x : ℕ) → x ≡ window f (suc d) p 0 s k → ¬ (x ≡ 0)
        → (r : ℕ → ℕ) → Difference f COEFFICIENTS r p (k + 1 - d) (f.times x (f.inverse last)) w 0 → Held f t s r p x (k + 1) d
    grow p w last d k h lt le x ex some r made =
        let n = h.n in
        let is = h.is in
        let short = h.short in
        let a = k + 1 - d in
        let c = f.times x (f.inverse last) in
        let two = one_code l in
        let hx : x < f.size = subst (λ y. y < f.size) (sym ex) (window_code l (suc d) p 0 s k) in
        let mad : Difference f n r p a c w 0 = λ i u. made i (omega arith) in
        let win = window_difference l n r p a c w 0 mad (omega arith) (omega arith) (λ i u v. h.high i (omega arith) v) (λ i u v. absurd (omega arith)) s in
        record {
          n = n;
          is = is;
          short = omega arith;
          reach = short;
          monic = made (k + 1) (omega arith) ∙ minus_none l 1 c _ _ (shifted_high a p (k + 1) (omega arith) ∙ ap p (let e : k + 1 - a ≡ d = omega arith in e) ∙ h.monic) (shifted_none w (k + 1) ∙ h.back_high (k + 1) (omega arith) (omega arith)) two;
          high = λ i u v. made i (omega arith) ∙ minus_none l 0 c _ _ (shifted_high a p i (omega arith) ∙ h.high (i - a) (omega arith) (omega arith)) (shifted_none w i ∙ h.back_high i (omega arith) v) (omega arith);
          clears = λ j u. elim (ℕ_discrete (suc j) d) [
            | yes e ↦ win j ∙ cancelled x last _ _ hx h.last_code h.last_some
                (ap (window f n p 0 s) (let q : j + a ≡ k = omega arith in q) ∙ whole p w last d k h k ∙ sym ex)
                (ap (window f n w 0 s) (let q : j + 0 ≡ d - 1 = omega arith in q) ∙ h.back_last (omega arith))
            | no e ↦ win j ∙ minus_none l 0 c _ _ (h.clears (j + a) (omega arith)) (h.back_clears (j + 0) (omega arith)) (omega arith)
          ];
          back_high = λ i u v. h.high i u v;
          back_clears = λ j u. h.clears j (omega arith);
          back_last = λ _. ap (window f n p 0 s) (let q : k + 1 - 1 ≡ k = omega arith in q) ∙ whole p w last d k h k ∙ sym ex;
          last_code = hx;
          last_some = some;
        }

    -- 1 and 0 clear no window
    pub start : (p w : ℕ → ℕ) → p 0 ≡ 1 → ((i : ℕ) → 0 < i → i < COEFFICIENTS → p i ≡ 0) → ((i : ℕ) → i < COEFFICIENTS → w i ≡ 0) → Held f t s p w 1 0 0
    start p w one zp zw = record {
      n = COEFFICIENTS;
      is = refl;
      short = omega arith;
      reach = omega arith;
      monic = one;
      high = zp;
      clears = λ j b. absurd (omega arith);
      back_high = λ i u v. zw i v;
      back_clears = λ j b. absurd (omega arith);
      back_last = λ b. absurd (omega arith);
      last_code = one_code l;
      last_some = λ z. let y : ◌≡◌ {A = ℕ} 1 0 = z in omega arith;
    }

    -- t windows are enough
    pub done : (p : List ℕ) (w : ℕ → ℕ) (last d k : ℕ) → Held f t s (at p) w last d k → t ≤ k → d < length p → Locates f t s (take (d + 1) p)
    done p w last d k h le lt = record {
      degree = d;
      terms = length-take-le (d + 1) p (omega arith) ∙ add-one d;
      short = h.short;
      monic = get_or-take (d + 1) p d 0 (omega arith) ∙ h.monic;
      clears = λ j b. window_front_of f p s d j lt ∙ sym (whole (at p) w last d k h j) ∙ h.clears j (omega arith);
    }
