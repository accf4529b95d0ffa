-- A ready exchange is refused nowhere, and its slip comes back answered.
use Rattle.std.proofs.Common.{◌≡◌, ℕ, ◌+◌, ◌≤◌, ◌<◌, ◌++◌, List, length, take, Option, Result, Ok, Err, inl, inr, sym, refl, ap, ◌∙◌, subst, arith}
use Rattle.std.proofs.Math.ListN.{drop_of_length-le}
use Rattle.std.specs.Result.{IsOk}
use Rattle.field.specs.Field.{Ops, Laws}
use Rattle.field.specs.Sums.{entry}
use Rattle.refusal.specs.declared.Refusal.{Refusal}
use Rattle.refusal.specs.Numbers.{place}
use Rattle.refusal.specs.Rules.{Refused, Accepted}
use Rattle.wire.specs.Requests.{request_words, values_due}
use Rattle.wire.specs.Reading.{reading_reply, reply_words}
use Rattle.station.specs.Serving.{answers, InRange, index_limit, EndsAgree, Served}
use Rattle.tally.specs.Rows.{tally_size}
use Rattle.calls.specs.declared.book.Book.{Book}
use Rattle.calls.specs.declared.slip.Slip.{Slip}
use Rattle.calls.specs.declared.slip.Returned.{Returned}
use Rattle.calls.specs.declared.slip.Returned.TheVariants.{Answered}
use Rattle.calls.specs.declared.standing.Standing.TheVariants.{Out, Heard}
use Rattle.calls.specs.Slips.{Takes, slipping, taking, returning, TakesIn, OfAsking, HandsOut, standing, returned_as}
use Rattle.desk.specs.Exchange.{Ready}
use Rattle.desk.proofs.Answered.{served_answers}
use Rattle.calls.proofs.StandingsSet.{standing_same, not_free}

module _ {row : List ℕ} {only : Option ℕ} {s : ℕ} {b : Book} {room : ℕ} (r : Ready row only s b room) where
  pub slips_ready : (e : Refusal) → Refused (slipping b only s 4) e → ⊥
  slips_ready e (inl x) = x.0 (omega arith)
  slips_ready e (inr (_, inl x)) = x.0 r.station
  slips_ready e (inr (_, inr (_, inl x))) = x.0 r.concerned
  slips_ready e (inr (_, inr (_, inr (_, inl x)))) = not_free (standing b s) x.0 r.free
  slips_ready e (inr (_, inr (_, inr (_, inr (_, inl x))))) = absurd (let a = x.0 in let f = r.free in cc)
  slips_ready e (inr (_, inr (_, inr (_, inr (_, inr (_, inl x)))))) = x.0 r.few
  slips_ready e (inr (_, inr (_, inr (_, inr (_, inr (_, inr x)))))) = x.1

  module _ {slip : Slip} {b1 : Book} {blank request : List ℕ} (out : HandsOut b s blank slip b1 request) where
    pub words_written : length blank ≡ 4 → request ≡ request_words slip.request
    words_written four = out.written ∙ ap (λ xs. request_words slip.request ++ xs) (let le : length blank ≤ 4 = omega (arith, four) in drop_of_length-le blank {i = 4} le)

    pub station_named : slip.request.station ≡ s
    station_named = out.request.1

    pub reply_told : (f : Ops) → length blank ≡ 4 → (count : ℕ) (before after : List ℕ) → Served f row s request before after (Ok count)
        → take count after ≡ reply_words slip.request (answers f row slip.request)
    reply_told f four count before after served =
        served_answers f row slip.request request before after (words_written four) count
        (subst (λ n. Served f row n request before after (Ok count)) (sym station_named) served)

    pub in_range : InRange row slip.request
    in_range = (
      (omega (arith, out.request, b.question.first_in), omega (arith, out.request, r.rising)),
      subst (λ asked. slip.request.last ≤ index_limit asked row) (sym out.request.2) (omega (arith, out.request, r.answered)),
    )

    pub fits_reply : 4 + values_due slip.request ≤ 132
    fits_reply = omega (arith, out.request, r.short, b.question.first_in)

    asks_here : (b' : Book) → b'.terms ≡ b.terms → b'.question ≡ b.question → OfAsking b' slip.request.station slip.request
    asks_here b' t q = (
      out.request.0 ∙ sym (ap (λ t. t.number) t),
      refl,
      out.request.2 ∙ sym (ap (λ q. q.asked) q),
      out.request.3 ∙ sym (ap (λ q. q.first) q),
      out.request.4 ∙ sym (ap (λ q. q.last) q),
    )

    stands_out : standing b1 slip.request.station ≡ Out
    stands_out = ap (standing b1) station_named ∙ standing_same b.standings s Out out.standings (omega (arith, r.station, b.full, b.terms.farm.stations_in))

    module _ (f : Ops) (laws : Laws f) (agree : EndsAgree) (codes : (k : ℕ) → entry row k < f.size) (words : List ℕ)
        (told : words ≡ reply_words slip.request (answers f row slip.request)) where
      pub takes_ready : (e : Refusal) → Refused (taking f b1 slip.request words room) e → ⊥
      takes_ready e (inl x) = x.0 (subst (λ t. tally_size t.farm.stations t.farm.pages ≤ room) (sym out.keeps.terms) r.fits)
      takes_ready e (inr (_, inl x)) = x.0 (asks_here b1 out.keeps.terms out.keeps.question, inl stands_out)
      takes_ready e (inr (_, inr (_, inl x))) = absurd (let a = x.0 in let f = stands_out in cc)
      takes_ready e (inr (_, inr (_, inr (_, read)))) =
          let clear = subst (λ ws. Accepted (reading_reply f slip.request ws)) (sym told) (agree f laws row codes slip.request).0 in
          elim read [
            | inl garbled ↦ clear.0 (place e) garbled.1.0 garbled.1.1
            | inr x ↦ elim x.1 [ inl foreign ↦ clear.1.0 (place e) foreign.1.0 foreign.1.1 | inr y ↦ y.1 ]
          ]

      pub takes_ok : (b2 : Book) (before after : List ℕ) (r : Result (Unit {0}) Refusal) → length before ≡ room
          → Takes f b1 slip.request words before r b2 after → IsOk r
      takes_ok b2 before after (Ok u) long x = refl
      takes_ok b2 before after (Err e) long x = absurd (takes_ready e (subst (λ n. Refused (taking f b1 slip.request words n) e) long x.0))

      module _ {b2 : Book} {before after : List ℕ} (took : TakesIn f b1 slip.request words before b2 after) where
        stands_heard : standing b2 slip.request.station ≡ Heard
        stands_heard =
            standing_same b1.standings slip.request.station Heard took.standings (omega (arith, station_named, r.station, b1.full, b.terms.farm.stations_in))

        pub returns_ready : (e : Refusal) → Refused (returning b2 slip.request) e → ⊥
        returns_ready e (inl x) = x.0 (asks_here b2 (took.keeps.terms ∙ out.keeps.terms) (took.keeps.question ∙ out.keeps.question), inr stands_heard)
        returns_ready e (inr x) = x.1

        pub comes_answered : (r : Returned) → r ≡ returned_as (standing b2 slip.request.station) → r ≡ Answered
        comes_answered r says = says ∙ ap returned_as stands_heard
