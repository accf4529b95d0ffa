-- What filling a page with zero bytes comes to.
use Rattle.std.proofs.Common.{◌≡◌, ℕ, zero, suc, ◌-◌, ◌<◌, List, [], ◌∷◌, length, replicate, fold, sym, ◌∙◌, arith}
use Rattle.std.proofs.lemmas.List.Sums.{fold-append}
use Rattle.field.specs.Field.{Ops, Laws, power}
use Rattle.field.proofs.Laws.{plus_zero_code, times_one_code}
use Rattle.page.specs.Pages.{absorb, signature, signed_bytes}

module _ {f : Ops} (l : Laws f) where
  -- k zero bytes multiply by alpha^k
  zeros : (k s : ℕ) → s < f.size → fold (absorb f) s (replicate k 0) ≡ f.times s (power f f.alpha k)
  zeros zero s h = sym (times_one_code l s h)
  zeros (suc k) s h =
      let a = f.alpha in
      let t = f.times s a in
      let once : absorb f s 0 ≡ t = plus_zero_code l t (l.times_code s a) in
      cc (zeros k t (l.times_code s a), l.times_assoc s a (power f a k), l.times_comm a (power f a k))

  folded_code : (s : ℕ) (xs : List ℕ) → s < f.size → fold (absorb f) s xs < f.size
  folded_code s [] h = h
  folded_code s (x ∷ xs) h = folded_code (absorb f s x) xs (l.plus_code _ x)

  pub filled : (L : ℕ) (own : List ℕ) → f.times (signature f own) (power f f.alpha (L - length own)) ≡ signature f (signed_bytes L own)
  filled L own =
      let zero_code : 0 < f.size = omega (arith, l.size_least) in
      sym (zeros (L - length own) (signature f own) (folded_code 0 own zero_code)) ∙ sym (fold-append (absorb f) 0 own (replicate (L - length own) 0))

  pub signature_code : (bytes : List ℕ) → signature f bytes < f.size
  signature_code bytes = folded_code 0 bytes (omega (arith, l.size_least))
