use Rattle.std.proofs.Common.{◌≡◌, ℕ, ◌+◌, ◌-◌, ◌≢◌, ◌⊎◌, List, get_or, inl, inr, refl, subst, ap, ◌∙◌, arith, rules}
use Rattle.solve.specs.Answer.{blank, code_at}
use Rattle.tally.specs.Rows.{signature_in, RowPut}
use Rattle.tally.proofs.RowPutting.{row_turn}
use Rattle.pairs.proofs.Gone.{turns}
use Rattle.pairs.proofs.subtracting.put_minus.Goals as goal
use Rattle.pairs.proofs.subtracting.put_minus.Goals.{then-list-next, else-list-next}

pub offset_bounds-list-next : goal.offset_bounds-list-next
offset_bounds-list-next g c =
    let h = c.requires.1 in
    let passed = c.loop-before.invariant.0 c.requires.0 h in
    omega (arith, c.told-list, h.fits, passed.few)

pub bounds-list-next : goal.bounds-list-next
bounds-list-next g c =
    let h = c.requires.1 in
    let passed = c.loop-before.invariant.0 c.requires.0 h in
    omega (arith, c.told-list, h.fits, passed.few)

pub loop-before-preserved : goal.loop-before-preserved
loop-before-preserved g c =
    let f = g.F.Field.ops in
    let N = c.args.farm.now.pages in
    let list = c.args.list.now in
    let k = c.loop-before.next in
    let p = c.loop-before.before + 1 in
    let next = c.if-list-next.next in
    let code = c.if-list-next.code in
    let way : ((get_or list k blank).page ≡ p) × (next ≡ k + 1) × (code ≡ (get_or list k blank).code) ⊎ ((get_or list k blank).page ≢ p) × (next ≡ k) × (code ≡ 0) =
    elim c.if-list-next.branch [
      | then-list-next w ↦ inl (w.if-list-next.true, w.next-is, w.code-is)
      | else-list-next w ↦ inr (w.if-list-next.false, w.next-is, w.code-is)
    ] in
    let rows = c.rows.ensures in
    let read = c.signature-signature.ensures ∙ ap (λ n. signature_in c.rows.result.words.now n c.args.from p) rows.2 ∙ ap (λ (xs : List ℕ). signature_in xs N c.args.from p) rows.0 in
    let told = (turns N c.requires.0 list c.requires.1 k p (omega arith) (c.loop-before.invariant.0 c.requires.0 c.requires.1) next code way).1 in
    let same : c.loop-before.before ≡ p - 1 = omega arith in
    let before = subst (λ b. RowPut N b c.args.to c.args.tally.now c.loop-before.tally (λ n. f.minus (signature_in c.args.tally.now N c.args.from n) (code_at list n))) same c.loop-before.invariant.1 in (
      λ m h. (turns N m list h k p (omega arith) (c.loop-before.invariant.0 m h) next code way).0,
      row_turn f N c.args.from c.args.to p p (code_at list) c.args.tally.now c.loop-before.tally c.put_signature.new.tally (omega arith) (omega arith) refl before
          c.signature-signature.result code _ read told (search rules) c.put_signature.ensures,
    )
