use Rattle.std.proofs.Common.{◌<◌, arith}
use Rattle.icu_normalizer_core.specs.FormData.{form_meaning}
use Rattle.icu_normalizer.proofs.noted.FormNoteLemmas.{steady_note}
use Rattle.icu_normalizer.proofs.form_notes.note_of.Goals as goal

pub returns : goal.returns
returns c =
    let note = c.listed_note-note.result in
    let listed = c.listed_note-note.ensures.listed in
    let some : 0 < note.len = omega (arith, c.if-note-eq0.false) in
    let kept = steady_note (form_meaning c.args.basis) c.args.c note some listed (c.is_steady.ensures c.if-not-is_steady.false) in
    record {
      listed = record { within = listed.within; list_is = listed.list_is; highest = listed.highest; stands = listed.stands };
      alone = c.listed_note-note.ensures.alone;
      steady = λ _. record { some = kept.some; starter = kept.starter; apart = kept.apart; own = kept.own };
    }
