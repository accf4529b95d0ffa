-- What a station serves to a request within its range: the reply with its answers, and never a refusal.
use Rattle.std.proofs.Common.{◌≡◌, ℕ, ◌+◌, ◌≤◌, List, ◌++◌, length, map, take, drop, Ok, Err, inl, inr, sym, ap, ap₂, ◌∙◌, subst, arith}
use Rattle.std.proofs.lemmas.List.{length-map}
use Rattle.std.proofs.Math.Seq.{take-append_seam}
use Rattle.std.proofs.lemmas.List.FromFn.{length-map-range_with_len}
use Rattle.field.specs.Field.{Ops}
use Rattle.refusal.specs.declared.Refusal.{Refusal}
use Rattle.refusal.specs.Numbers.{place}
use Rattle.refusal.specs.Rules.{Accepted}
use Rattle.wire.specs.declared.request.Request.{Request}
use Rattle.wire.specs.Requests.{request_words, values_due, Same}
use Rattle.wire.specs.Reading.{reading_request, reply_words}
use Rattle.wire.specs.Words.{word}
use Rattle.wire.proofs.ReadBack.{requests_read_back}
use Rattle.station.specs.Serving.{answer, answers, index_limit, InRange, Served}

-- requests that ask the same are answered alike
same_reply : (f : Ops) (row : List ℕ) (p q : Request) → Same p q → reply_words p (answers f row p) ≡ reply_words q (answers f row q)
same_reply f row p q (check, station, asked, from, to) = ap₂ ◌++◌ words (ap (map (word 6)) same_answers)
  where
    words : request_words p ≡ request_words q
    words = cc

    same_answers : answers f row p ≡ answers f row q
    same_answers = cc

module _ (f : Ops) (row : List ℕ) (p : Request) (words before after : List ℕ) (is : words ≡ request_words p) where
  pub served_answers : (count : ℕ) → Served f row p.station words before after (Ok count) → take count after ≡ reply_words p (answers f row p)
  served_answers count (inl (q, words_are, (accepted, count_is, written))) =
      let reply = reply_words q (answers f row q) in
      let size : length reply ≡ count = omega (arith, count_is, length-map (answers f row q) (word 6), length-map-range_with_len (answer f row q.asked) q.first (values_due q)) in
      ap (take count) written ∙ subst (λ n. take n (reply ++ drop count before) ≡ reply) size (take-append_seam reply (drop count before))
      ∙ same_reply f row q p ((requests_read_back p).1 q (sym words_are ∙ is))
  served_answers count (inr (refusal, not, refused, kept)) = absurd (let e = not in cc)

  pub served_never_refused : InRange row p → 4 + values_due p ≤ length before → (refusal : Refusal) → Served f row p.station words before after (Err refusal) → ⊥
  served_never_refused range room refusal (inl (q, words_are, (refused, kept))) =
      let same = (requests_read_back p).1 q (sym words_are ∙ is) in
      elim refused [
        | inl other ↦ other.0 same.1
        | inr x ↦ elim x.1 [
          | inl outside ↦ outside.0 ((omega (arith, range, same.3, same.4), omega (arith, range, same.3, same.4)), subst (λ asked. q.last ≤ index_limit asked row) (sym same.2) (omega (arith, range.1, same.4)))
          | inr y ↦ elim y.1 [
            | inl short ↦ short.0 (omega (arith, room, same.3, same.4))
            | inr z ↦ z.1
          ]
        ]
      ]
  served_never_refused range room refusal (inr (r, not, refused, kept)) =
      let clear = subst (λ ws. Accepted (reading_request ws)) (sym is) (requests_read_back p).0 in
      elim refused [ inl garbled ↦ clear.0 (place r) garbled.1.0 garbled.1.1 | inr x ↦ x.1 ]
