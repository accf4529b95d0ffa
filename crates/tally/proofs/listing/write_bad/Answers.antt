use Rattle.std.proofs.Common.{◌≡◌, ◌+◌, ◌<◌, ◌++◌, length, drop, set, sym, ap, ◌∙◌, ap₂, arith}
use Rattle.std.proofs.lemmas.List.{length_push}
use Rattle.scheme.specs.Farm.{Table}
use Rattle.tally.specs.Listing.{bad_pages}
use Rattle.tally.specs.Rows.{signature_in}
use Rattle.tally.proofs.BadPages.{bad_more, good_more, pages_most, page_fits, write_more}
use Rattle.tally.proofs.listing.write_bad.Goals as goal
use Rattle.tally.proofs.listing.write_bad.Goals.{then-is_bad, else-is_bad}

pub bounds-out-count : goal.bounds-out-count
bounds-out-count c =
    omega (
      arith,
      c.requires,
      c.loop-before.invariant.0,
      c.loop-before.auto.out,
      page_fits c.args.rows.now.stations (signature_in c.args.rows.now.words.now c.args.rows.now.pages) c.args.station c.loop-before.before c.args.pages
          c.if-is_bad.ensures c.loop-before-test.true,
    )

pub offset_bounds-out-count : goal.offset_bounds-out-count
offset_bounds-out-count c =
    omega (arith, c.loop-before.invariant.0, pages_most c.args.rows.now.stations (signature_in c.args.rows.now.words.now c.args.rows.now.pages) c.args.station c.loop-before.before)

pub overflow_add-count : goal.overflow_add-count
overflow_add-count c =
    omega (arith, c.loop-before.invariant.0, pages_most c.args.rows.now.stations (signature_in c.args.rows.now.words.now c.args.rows.now.pages) c.args.station c.loop-before.before)

pub loop-before-preserved : goal.loop-before-preserved
loop-before-preserved c =
    let M = c.args.rows.now.stations in
    let R : Table = signature_in c.args.rows.now.words.now c.args.rows.now.pages in
    let s = c.args.station in
    let k = c.loop-before.before in
    let n = c.loop-before.count in
    let old = c.args.out.now in
    let inv = c.loop-before.invariant in
    elim c.if-is_bad.branch [
      | then-is_bad w ↦
          let bad = w.if-is_bad.ensures in
          let more = bad_more M R s k bad in
          let fits : n < length old = omega (arith, c.requires, inv.0, page_fits M R s k c.args.pages bad c.loop-before-test.true) in (
            w.count-is ∙ ap (λ n. n + 1) inv.0 ∙ sym (ap length more ∙ length_push (bad_pages M R s k) (k + 1)),
            w.out-is ∙ ap (λ xs. set xs n (k + 1)) inv.1 ∙ write_more (bad_pages M R s k) old n (k + 1) (sym inv.0) fits
                ∙ sym (ap₂ (λ xs i. xs ++ drop i old) more w.count-is),
          )
      | else-is_bad w ↦
          let more = good_more M R s k w.if-is_bad.ensures in
          (w.count-is ∙ inv.0 ∙ sym (ap length more), w.out-is ∙ inv.1 ∙ sym (ap₂ (λ xs i. xs ++ drop i old) more w.count-is))
    ]

pub returns : goal.returns
returns c =
    let M = c.args.rows.now.stations in
    let R : Table = signature_in c.args.rows.now.words.now c.args.rows.now.pages in
    let s = c.args.station in
    let e : c.loop-before.before ≡ c.args.pages = omega arith in
    let pages = ap (bad_pages M R s) e in
    c.loop-before.invariant.1 ∙ ap₂ (λ xs i. xs ++ drop i c.args.out.now) pages (c.loop-before.invariant.0 ∙ ap length pages)
