use Rattle.std.proofs.Common.{◌≡◌, ℕ, suc, ◌+◌, ◌-◌, ◌*◌, ◌≤◌, ap, ◌∙◌, arith}
use Rattle.field.specs.Field.{Ops, Laws, power}
use Rattle.field.specs.Sums.{power_sum, Tells}
use Rattle.field.proofs.Sums.{sum_more, weight_more}
use Rattle.page.proofs.sum.sum_of.Goals as goal
use Rattle.page.proofs.sum.sum_of.Goals.{else-loop-page-test, then-loop-page-test+else-page-pages}

-- the turn of one page adds its term
turn : {f : Ops} → Laws f → (P : ℕ → ℕ → Type 0) (N j page last code weight sum total : ℕ) → 1 ≤ page → page ≤ N → page ≡ last → P page code →
    weight ≡ power f f.alpha (j * page) → total ≡ f.plus (f.times code weight) sum → ((e : ℕ → ℕ) → Tells P N e → sum ≡ power_sum f (page - 1) e j) →
    (e : ℕ → ℕ) → Tells P N e → total ≡ power_sum f last e j
turn {f} l P N j page last code weight sum total from to same told w adds before e tells =
    let is : page ≡ suc (page - 1) = omega arith in
    let next : page - 1 + 1 ≡ last = omega arith in
    let term : code ≡ e (suc (page - 1)) = tells page code from to told ∙ ap e is in
    let place : weight ≡ power f f.alpha (j * suc (page - 1)) = w ∙ ap (λ k. power f f.alpha (j * k)) is in
    adds ∙ sum_more l e j (page - 1) code weight sum term place (before e tells) ∙ ap (λ k. power_sum f k e j) next

pub loop-page-preserved : goal.loop-page-preserved
loop-page-preserved g c =
    let f = g.F.Field.ops in
    let l = g.met.F.Field.lawful in
    let n = c.loop-page.page in
    let is : n ≡ suc (n - 1) = omega arith in
    let next : suc (n - 1 + 1) ≡ n + 1 = omega arith in
    let weight = weight_more l (λ k. 0) c.args.j (n - 1) c.loop-page.weight (c.loop-page.invariant.1 ∙ ap (λ k. power f f.alpha (c.args.j * k)) is) in
    let place = ap (λ k. power f f.alpha (c.args.j * k)) next in (
      omega arith,
      cc,
      turn l _ c.args.pages c.args.j n (n + 1 - 1) c.signature.result c.loop-page.weight c.loop-page.total _ (omega arith) (omega arith) (omega arith)
          c.signature.ensures c.loop-page.invariant.1 c.mul_add-total.ensures c.loop-page.invariant.2,
    )

pub returns : goal.returns
returns g c =
    let f = g.F.Field.ops in
    let l = g.met.F.Field.lawful in
    elim c.loop-page-test.branch [
      | else-loop-page-test w ↦ λ e tells.
          let all : c.loop-page.page - 1 ≡ c.args.pages = omega arith in
          w.total-is ∙ c.loop-page.invariant.2 e tells ∙ ap (λ k. power_sum f k e c.args.j) all
      | then-loop-page-test+else-page-pages w ↦ λ e tells.
          w.total-is
          ∙ turn l _ c.args.pages c.args.j c.loop-page.page c.args.pages w.signature.result c.loop-page.weight c.loop-page.total _ (omega arith) (omega arith) (omega arith)
          w.signature.ensures c.loop-page.invariant.1 w.mul_add-total.ensures c.loop-page.invariant.2 e tells
    ]
