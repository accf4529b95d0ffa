-- The lowest place at which a function is greatest, with one place more.
use Rattle.std.proofs.Common.{◌≡◌, ℕ, suc, ◌-◌, ◌<◌, ◌≤◌, cond, sym, ap, ◌∙◌, arith, le-ltb, lt-ltb}
use Rattle.scheme.specs.Farm.{top}

module _ (e : ℕ → ℕ) (s lead : ℕ) (from : 1 ≤ s) (is : lead ≡ top e (s - 1)) where
  next : suc (s - 1) ≡ s
  next = omega arith

  pub top_later : e lead < e s → s ≡ top e s
  top_later h =
      let less : e (top e (s - 1)) < e (suc (s - 1)) = omega (arith, h, ap e is, ap e next) in
      sym next ∙ sym (ap (λ b. cond b (suc (s - 1)) (top e (s - 1))) (lt-ltb (e (top e (s - 1))) (e (suc (s - 1))) less)) ∙ ap (top e) next

  pub top_stays : e s ≤ e lead → lead ≡ top e s
  top_stays h =
      let more : e (suc (s - 1)) ≤ e (top e (s - 1)) = omega (arith, h, ap e is, ap e next) in
      is ∙ sym (ap (λ b. cond b (suc (s - 1)) (top e (s - 1))) (le-ltb (e (top e (s - 1))) (e (suc (s - 1))) more)) ∙ ap (top e) next
