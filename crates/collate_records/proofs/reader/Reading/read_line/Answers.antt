use Rattle.std.proofs.Common.{◌≡◌, ◌+◌, ◌++◌, ◌∷◌, [], Bool, true, false, not, ap, sym, refl, ◌∙◌, inl, if◌then◌else◌}
use Rattle.std.proofs.lemmas.Bool.{false≢true}
use Rattle.collate_lines.specs.declared.rule.Rule.TheVariants.{Grammar, V14}
use Rattle.collate_lines.specs.Record.{said}
use Rattle.collate_lines.specs.Repeats.{says_something}
use Rattle.collate_lines.specs.Seen.{is_seen}
use Rattle.collate_records.proofs.reading.ReadingFaultLemmas.{refuses_now}
use Rattle.collate_records.proofs.reading.ReadLineLemmas.{breaks_again, line_outside, line_said, not_again, not_outside, read_more, read_past, sound_more}
use Rattle.collate_records.proofs.reader.Reading.read_line.Goals as goal

not_true : (b c : Bool) → c ≡ not b → c ≡ true → b ≡ false
not_true true c e h = sym h ∙ e
not_true false c e h = refl

not_false : (b c : Bool) → c ≡ not b → c ≡ false → b ≡ true
not_false true c e h = refl
not_false false c e h = sym h ∙ e

pub returns-in_default : goal.returns-in_default
returns-in_default c = λ limits file within e fits has sound.
    refuses_now limits file Grammar c.args.number c.fault.result c.fault.ensures refl
    (inl (line_outside file c.args.number c.args.line.now c.in_ok-given.field-0 e c.in_ok-given.ensures c.in_default.is)) sound

pub returns-then-not-says_something : goal.returns-then-not-says_something
returns-then-not-says_something c = λ limits file within e fits has sound.
    let line = line_said file c.args.number c.args.line.now c.in_ok-given.field-0 c.in-Some.given e c.in_ok-given.ensures c.in-Some.is in
    let silent : says_something (said c.in-Some.given) ≡ false = sym c.says_something.ensures ∙ c.if-not-says_something.true in (
      read_past file c.args.number (said c.in-Some.given) c.args.self.now within line silent has,
      sound_more limits file c.args.number sound (not_outside limits file c.args.number (said c.in-Some.given) line fits)
          (not_again limits file c.args.number (said c.in-Some.given) c.args.self.now within line has (λ says. absurd (false≢true (sym silent ∙ says)))),
    )

pub returns-then-not-is_new : goal.returns-then-not-is_new
returns-then-not-is_new c = λ limits file within e fits has sound.
    let line = line_said file c.args.number c.args.line.now c.in_ok-given.field-0 c.in-Some.given e c.in_ok-given.ensures c.in-Some.is in
    let says : says_something (said c.in-Some.given) ≡ true = sym c.says_something.ensures ∙ c.if-not-says_something.false in
    refuses_now limits file V14 c.args.number c.fault-then-not-is_new.result c.fault-then-not-is_new.ensures refl
    (breaks_again limits file c.args.number (said c.in-Some.given) c.args.self.now within line says fits has
    (not_false (is_seen c.args.self.now.seen (said c.in-Some.given)) _ c.in_ok-is_new.ensures.new c.if-not-is_new.true))
    sound

pub returns : goal.returns
returns c = λ limits file within e fits has sound.
    let line = line_said file c.args.number c.args.line.now c.in_ok-given.field-0 c.in-Some.given e c.in_ok-given.ensures c.in-Some.is in
    let says : says_something (said c.in-Some.given) ≡ true = sym c.says_something.ensures ∙ c.if-not-says_something.false in
    let records = c.push.ensures.items ∙ ap (λ (b : Bool). if b then c.args.self.now.records.items ++ c.in-Some.given ∷ [] else c.args.self.now.records.items) c.if-is_err.ensures.negation in
    let numbers = c.push-2.ensures.items ∙ ap (λ (b : Bool). if b then c.args.self.now.numbers.items ++ (c.args.number + 1) ∷ [] else c.args.self.now.numbers.items) c.if-is_err-2.ensures.negation in (
      read_more file c.args.number c.in-Some.given c.args.self.now _ within line says has records numbers c.in_ok-is_new.ensures.seen,
      sound_more limits file c.args.number sound (not_outside limits file c.args.number (said c.in-Some.given) line fits)
          (not_again limits file c.args.number (said c.in-Some.given) c.args.self.now within line has
          (λ _. not_true (is_seen c.args.self.now.seen (said c.in-Some.given)) _ c.in_ok-is_new.ensures.new c.if-not-is_new.false)),
    )
