use Rattle.std.proofs.Common.{◌≡◌, ap, ◌∙◌, rules}
use Rattle.field.proofs.Laws.{total_code}
use Rattle.field.specs.Sums.{power_sum}
use Rattle.page.specs.Pages.{page_signature}
use Rattle.station.proofs.Rows.{shelf_sum}
use Rattle.station.proofs.shelf.ShelfStation.sum.Goals as goal

pub returns : goal.returns
returns g c =
    let f = g.F.Field.ops in
    let l = g.met.F.Field.lawful in
    let shelf = c.args.self.now in
    let is : c.job_sum.result ≡ power_sum f shelf.cut.pages (page_signature f shelf.cut.page_length shelf.job.now) c.args.j =
    c.job_sum.ensures
    ∙ ap (λ n. power_sum f n (page_signature f c.page_length.result shelf.job.now) c.args.j) c.pages.ensures.held
    ∙ ap (λ L. power_sum f shelf.cut.pages (page_signature f L shelf.job.now) c.args.j) c.page_length.ensures in
    (search rules, is ∙ shelf_sum l shelf.cut.page_length shelf.cut.pages shelf.job.now c.args.j, rw is (total_code l shelf.cut.pages _))
