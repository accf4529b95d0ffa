use Rattle.std.proofs.Common.{◌≡◌, ◌≤◌, sym, ap, ◌∙◌, rules, arith}
use Rattle.page.specs.Pages.{page_bytes, signed_bytes, page_signature}
use Rattle.page.proofs.Parts.{signature_code}
use Rattle.station.proofs.Rows.{shelf_length, shelf_entry}
use Rattle.station.proofs.shelf.ShelfStation.signature.Goals as goal

pub returns : goal.returns
returns g c =
    let shelf = c.args.self.now in
    let L = shelf.cut.page_length in
    let f = g.F.Field.ops in
    let l = g.met.F.Field.lawful in
    let count = shelf_length l L shelf.cut.pages shelf.job.now in
    let from : 1 ≤ c.args.page = omega (arith, c.in_ok-accept_index.ensures) in
    let to : c.args.page ≤ shelf.cut.pages = omega (arith, c.in_ok-accept_index.ensures, c.page_count.ensures) in
    let value = shelf_entry l L shelf.cut.pages shelf.job.now c.args.page from to in
    let is : c.page_signature.result ≡ page_signature f L shelf.job.now c.args.page =
    c.page_signature.ensures ∙ ap (λ k. page_signature f k shelf.job.now c.args.page) c.page_length.ensures in
    (search rules, is ∙ sym value, rw is (signature_code l (signed_bytes L (page_bytes L shelf.job.now c.args.page))))
