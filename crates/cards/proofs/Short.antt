-- The lines of a card, one page after the other, and how long they are at most.
use Rattle.std.proofs.Common.{ℕ, suc, ◌-◌, ◌<◌, ◌≤◌, ◌≡◌, List, ◌++◌, length, decimal, inl, inr, arith, ap, sym, ◌∙◌, length-append, lit<}
use Rattle.std.proofs.lemmas.Fmt.{length-decimal-le}
use Rattle.refusal.specs.declared.Refusal.{Refusal}
use Rattle.refusal.specs.Rules.{Refused}
use Rattle.field.specs.Field.{Ops, Laws}
use Rattle.page.specs.Pages.{page_bytes, signed_bytes, page_signature, cutting}
use Rattle.page.proofs.Parts.{signature_code}
use Rattle.lines.specs.Text.{refusal_line}
use Rattle.lines.proofs.Short.{refusal_line_short}
use Rattle.cards.specs.Card.{page_line, page_lines, last_line}

pub page_line_short : {f : Ops} → Laws f → (L : ℕ) (job : List ℕ) (page s : ℕ) → page ≤ 1920 → s ≡ page_signature f L job page → length (page_line page s) ≤ 15
page_line_short {f} laws L job page s few is =
    let code : page_signature f L job page < f.size = signature_code laws (signed_bytes L (page_bytes L job page)) in
    let p : length (decimal page) ≤ 4 = length-decimal-le 4 page (lit< tt) (omega arith) (omega arith) in
    let d : length (decimal s) ≤ 9 = length-decimal-le 9 s (lit< tt) (omega (arith, laws.size_most)) (omega (arith, laws.size_most)) in
    simp length-append (omega arith)

pub last_line_short : (pages : ℕ) → pages ≤ 1920 → length (last_line pages) ≤ 11
last_line_short pages few =
    let p : length (decimal pages) ≤ 4 = length-decimal-le 4 pages (lit< tt) (omega arith) (omega arith) in
    simp length-append (omega arith)

-- the line of one more page
pub page_lines_next : (signature_of : ℕ → ℕ) (page next : ℕ) → 1 ≤ page → next ≡ page
    → page_lines signature_of (page - 1) ++ page_line page (signature_of page) ≡ page_lines signature_of next
page_lines_next signature_of page next some same =
    let one : suc (page - 1) ≡ page = omega arith in
    ap (λ n. page_lines signature_of (page - 1) ++ page_line n (signature_of n)) (sym one) ∙ ap (page_lines signature_of) (one ∙ sym same)

pub cut_refused_short : (f : Ops) (page_length bytes : ℕ) (e : Refusal) → Refused (cutting f page_length bytes) e → length (refusal_line e) ≤ 32
cut_refused_short f page_length bytes e (inl x) = refusal_line_short e (omega (arith, x.2))
cut_refused_short f page_length bytes e (inr (_, inl x)) = refusal_line_short e (omega (arith, x.2))
cut_refused_short f page_length bytes e (inr (_, inr x)) = absurd (x.1)
