-- How long the line of a refusal is at most.
use Rattle.std.proofs.Common.{◌<◌, ◌≤◌, ◌^◌, length, decimal, arith, length-append, lit<}
use Rattle.std.proofs.lemmas.Fmt.{length-decimal-le}
use Rattle.refusal.specs.declared.Refusal.{Refusal}
use Rattle.refusal.specs.declared.Refusal.TheVariants.{Size, Cramped, Unknown, Out, In, Unasked, Missing, Garbled, Foreign, Stray, Range, Silent}
use Rattle.refusal.specs.Numbers.{number, place}
use Rattle.lines.specs.Text.{refusal_line}

number_short : (r : Refusal) → number r < 100
number_short (Size limit) = lit< tt
number_short (Cramped buffer) = lit< tt
number_short (Unknown station) = lit< tt
number_short (Out station) = lit< tt
number_short (In station) = lit< tt
number_short (Unasked station) = lit< tt
number_short (Missing station) = lit< tt
number_short (Garbled position) = lit< tt
number_short (Foreign position) = lit< tt
number_short (Stray station) = lit< tt
number_short Range = lit< tt
number_short Silent = lit< tt

pub refusal_line_short : (r : Refusal) → place r < 2 ^ 64 → length (refusal_line r) ≤ 32
refusal_line_short r fits =
    let n : length (decimal (number r)) ≤ 2 = length-decimal-le 2 (number r) (lit< tt) (omega (arith, number_short r)) (omega (arith, number_short r)) in
    let p : length (decimal (place r)) ≤ 20 = length-decimal-le 20 (place r) (lit< tt) (omega arith) fits in
    simp length-append (omega arith)
