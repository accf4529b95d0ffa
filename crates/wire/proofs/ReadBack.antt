-- What is written is whole, and is read back.
use Rattle.std.proofs.Common.{◌≡◌, ℕ, zero, suc, ◌+◌, ◌-◌, ◌^◌, ◌<◌, ◌≤◌, ◌⊎◌, List, [], ◌∷◌, ◌++◌, map, length, get_or, sym, refl, ap, ◌∙◌, inl, inr, ⊎_elim, arith}
use Rattle.std.proofs.lemmas.List.{get_or-append_right, get_or-map, length-map, length-append}
use Rattle.std.proofs.lemmas.Bool.{cases_lt}
use Rattle.field.specs.Field.{Ops, Laws}
use Rattle.field.specs.Sums.{entry}
use Rattle.wire.specs.Words.{word, kind_of, value_of}
use Rattle.wire.specs.Requests.{request_words, values_due, asked_kind, Same}
use Rattle.wire.specs.Reading.{WellFormed, Whole, reply_words, RequestsReadBack, RepliesReadBack}
use Rattle.wire.specs.declared.asked.Asked.{Asked}
use Rattle.wire.specs.declared.asked.Asked.TheVariants.{Sums, Signatures}
use Rattle.wire.specs.declared.request.Request.{Request}
use Rattle.wire.proofs.Replies.{whole_clear, none_foreign, reply}

pub kind_of_word : (kind value : ℕ) → value < 2 ^ 28 → kind_of (word kind value) ≡ kind
kind_of_word kind value h = omega arith

pub value_of_word : (kind value : ℕ) → value < 2 ^ 28 → value_of (word kind value) ≡ value
value_of_word kind value h = omega arith

asked_kinds : (a : Asked) → (asked_kind a ≡ 3) ⊎ (asked_kind a ≡ 4)
asked_kinds Sums = inl refl
asked_kinds Signatures = inr refl

asked_injective : (a b : Asked) → asked_kind a ≡ asked_kind b → a ≡ b
asked_injective Sums Sums e = refl
asked_injective Sums Signatures e = absurd (omega arith)
asked_injective Signatures Sums e = absurd (omega arith)
asked_injective Signatures Signatures e = refl

module _ (q : Request) where
  third : (limit : ℕ) → WellFormed limit 3 (word (asked_kind q.asked) q.first)
  third limit =
      grind (arith, kind_of_word (asked_kind q.asked) q.first q.narrow.2, asked_kinds q.asked)

  header_formed : (limit : ℕ) (rest : List ℕ) (k : ℕ) → 1 ≤ k → k ≤ 4 → WellFormed limit k (entry (request_words q ++ rest) k)
  header_formed limit rest zero from to = absurd (omega arith)
  header_formed limit rest (suc zero) from to = inl (refl, kind_of_word 1 q.check q.narrow.0)
  header_formed limit rest (suc (suc zero)) from to = inr (inl (refl, kind_of_word 2 q.station q.narrow.1))
  header_formed limit rest (suc (suc (suc zero))) from to = third limit
  header_formed limit rest (suc (suc (suc (suc zero)))) from to = inr (inr (inr (inl (refl, kind_of_word 5 q.last q.narrow.3))))
  header_formed limit rest (suc (suc (suc (suc (suc k))))) from to = absurd (omega arith)

request_whole : (q : Request) → Whole 0 0 (request_words q)
request_whole q = record { count = refl; each = λ k from to. header_formed q 0 [] k from to }

same_values : (p q : Request) → request_words p ≡ request_words q → Same p q
same_values p q e =
    let at : (i : ℕ) → get_or (request_words p) i 0 ≡ get_or (request_words q) i 0 = λ i. ap (λ xs. get_or xs i 0) e in
    let a : word 1 p.check ≡ word 1 q.check = at 0 in
    let b : word 2 p.station ≡ word 2 q.station = at 1 in
    let d : word 5 p.last ≡ word 5 q.last = at 3 in
    let c : word (asked_kind p.asked) p.first ≡ word (asked_kind q.asked) q.first = at 2 in
    (omega arith, omega arith, asked_injective p.asked q.asked (omega arith), omega arith, omega arith)

pub requests_read_back : RequestsReadBack
requests_read_back q = ((whole_clear (request_whole q), tt), λ p e. same_values p q e)

values_back : (vs : List ℕ) → ((k : ℕ) → k < length vs → get_or vs k 0 < 2 ^ 28) → map value_of (map (word 6) vs) ≡ vs
values_back [] h = refl
values_back (v ∷ vs) h =
    let here = value_of_word 6 v (h 0 (omega arith)) in
    let rest = values_back vs (λ k l. h (suc k) (omega arith)) in
    cc

module _ (f : Ops) (l : Laws f) (q : Request) (values : List ℕ) (count : length values ≡ values_due q) (codes : (k : ℕ) → k < length values → get_or values k 0 < f.size) where
  narrow : (k : ℕ) → k < length values → get_or values k 0 < 2 ^ 28
  narrow k h = omega (arith, codes k h, l.size_most)

  value_formed : (k : ℕ) → 5 ≤ k → k ≤ 4 + length values → WellFormed f.size k (entry (reply_words q values) k)
  value_formed k from to =
      let i = k - 5 in
      let h : i < length values = omega arith in
      let v = get_or values i 0 in
      let is : word 6 v ≡ entry (reply_words q values) k =
      sym (get_or-map (word 6) values i 0 0 h) ∙ ap (λ j. get_or (map (word 6) values) j 0) (omega arith)
      ∙ sym (get_or-append_right (request_words q) (map (word 6) values) 4 (k - 1) 0 refl (omega arith)) in
      let kind = ap kind_of (sym is) ∙ kind_of_word 6 v (narrow i h) in
      let value = ap value_of (sym is) ∙ value_of_word 6 v (narrow i h) in
      inr (inr (inr (inr (from, kind, omega (arith, value, codes i h)))))

  whole : Whole f.size (values_due q) (reply_words q values)
  whole = record {
    count = length-append (request_words q) (map (word 6) values) ∙ ap (λ n. 4 + n) (length-map values (word 6) ∙ count);
    each = λ k from to.
        ⊎_elim (λ low. header_formed q f.size (map (word 6) values) k from (omega arith))
        (λ high. value_formed k high (omega (arith, length-append (request_words q) (map (word 6) values), length-map values (word 6)))) (cases_lt k 5);
  }

pub replies_read_back : RepliesReadBack
replies_read_back f l q values count codes =
    let words = reply_words q values in
    let w = whole f l q values count codes in
    ((whole_clear w, (none_foreign f q words w refl, tt)), reply f q words w refl, values_back values (narrow f l q values count codes))
