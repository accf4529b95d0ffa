use Rattle.std.proofs.Common.{◌≡◌, ℕ, zero, suc, ◌+◌, ◌<◌, List, length, get_or, set, replicate, sym, refl, ap, ◌∙◌, ap₂, subst, arith, get_or-set_other, get_or-set_same}
use Rattle.solve.specs.declared.Entry.{Entry}
use Rattle.solve.specs.Polynomials.{at}
use Rattle.solve.specs.Candidates.{pages_of, candidates_of, codes_of}
use Rattle.solve.specs.Answer.{blank}
use Rattle.solve.specs.Listing.{Nonzeros}
use Rattle.solve.proofs.Listings.{none_listed, leave, put}
use Rattle.std.proofs.lemmas.List.{length-map}
use Rattle.solve.proofs.Coding.{page_is, code_is}
use Rattle.solve.proofs.listing.list_nonzeros.Goals as goal
use Rattle.solve.proofs.listing.list_nonzeros.Goals.{then-term-ne0, else-term-ne0}
use Rattle.solve.specs.declared.limits.TheConstants.{LIST_SIZE}

blanks : (n i : ℕ) → get_or (replicate n blank) i blank ≡ blank
blanks zero i = refl
blanks (suc n) zero = refl
blanks (suc n) (suc i) = blanks n i

written : (m k k' : ℕ) (g v : ℕ → ℕ) (list list' : List Entry) → ((i : ℕ) → i < m → g i < g m) → k < length list → Nonzeros m g v k list → ¬ (v m ≡ 0)
    → k' ≡ k + 1 → list' ≡ set list k (record { page = g m; code = v m }) → Nonzeros (m + 1) g v k' list'
written m k k' g v list list' rise fits h some ek el =
    subst (λ (n : ℕ). Nonzeros (m + 1) g v n list') (sym ek)
    (put m g v k list h rise some list'
    (λ i d. ap (λ L. get_or L i blank) el ∙ get_or-set_other list k i _ blank d)
    (ap (λ L. (get_or L k blank).page) el ∙ ap (λ (e : Entry). e.page) (get_or-set_same list k _ blank fits))
    (ap (λ L. (get_or L k blank).code) el ∙ ap (λ (e : Entry). e.code) (get_or-set_same list k _ blank fits)))

left : (m k k' : ℕ) (g v : ℕ → ℕ) (list list' : List Entry) → Nonzeros m g v k list → k' ≡ k → list' ≡ list → Nonzeros m g v k' list'
left m k k' g v list list' h ek el = subst (λ (n : ℕ). Nonzeros m g v n list') (sym ek) (subst (λ L. Nonzeros m g v k L) (sym el) h)

pub loop-term-init : goal.loop-term-init
loop-term-init c = record {
  long = refl;
  listed = none_listed (at (pages_of (candidates_of c.as_slice-coded.result.now))) (at (codes_of c.as_slice-coded.result.now)) (replicate LIST_SIZE blank) (blanks LIST_SIZE);
}

pub loop-term-preserved : goal.loop-term-preserved
loop-term-preserved c =
    let cs = c.as_slice-coded.result.now in
    let i = c.loop-term.term-index in
    let k = c.loop-term.listed in
    let list = c.loop-term.list in
    let g = at (pages_of (candidates_of cs)) in
    let v = at (codes_of cs) in
    let in_cs = c.loop-term-test.true in
    let long = c.loop-term.invariant.long in
    let h = c.loop-term.invariant.listed in
    let few = h.few in
    let code = code_is cs i in_cs in
    let rise = subst (λ cs. (i j : ℕ) → i < j → j < length (candidates_of cs) → at (pages_of (candidates_of cs)) i < at (pages_of (candidates_of cs)) j) (sym c.as_slice-coded.ensures.value) c.requires in
    let fits = c.as_slice-coded.ensures.fits in
    record {
      long = c.if-term-ne0.array_long;
      listed = elim c.if-term-ne0.branch [
        | then-term-ne0 w ↦ written i k c.if-term-ne0.listed g v list c.if-term-ne0.list (λ j b. rise j i b (simp length-map in_cs)) (omega arith) h (λ z. w.if-term-ne0.true (sym code ∙ z)) w.listed-is
            (w.list-is ∙ ap₂ (λ p y. set list k (record { page = p; code = y })) (sym (page_is cs i in_cs)) (sym code))
        | else-term-ne0 w ↦ left (i + 1) k c.if-term-ne0.listed g v list c.if-term-ne0.list (leave i g v k list h (code ∙ w.if-term-ne0.false)) w.listed-is w.list-is
      ];
    }
