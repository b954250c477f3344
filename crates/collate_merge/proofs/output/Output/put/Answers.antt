use Rattle.std.proofs.Common.{◌∙◌, ◌++◌, ◌∷◌, [], Ok, List, ap, subst, sym, ℕ}
use Rattle.std.specs.Prelude.{Result}
use Rattle.collate_merge.specs.Merges.{order_in, text_of}
use Rattle.collate_merge.specs.Sending.{Sends}
use Rattle.collate_merge.specs.Written.{written_of}
use Rattle.collate_merge.proofs.OutputLemmas.{again_last, again_text, first_last, first_text, plain_last, plain_text}
use Rattle.collate_merge.proofs.SendingLemmas.{always, sends-none, sends-nothing}
use Rattle.collate_merge.proofs.output.Output.put.Goals as goal
use Rattle.collate_merge.specs.declared.errors.MergeError.{MergeError}

pub returns-then-not-self-clause-sent : goal.returns-then-not-self-clause-sent
returns-then-not-self-clause-sent g c = λ m last accepted kept key_is.
    let w = g.W.Write.contents in
    subst (λ (bytes : List ℕ). Sends c.write_line.result (w c.args.writer.now) (w c.write_line.new.writer) bytes)
    (plain_text m accepted last c.args.self.now kept c.args.line.now c.args.key.now key_is c.if-not-self.true) c.write_line.ensures.sent

pub returns-then-not-self-clause-kept : goal.returns-then-not-self-clause-kept
returns-then-not-self-clause-kept g c = λ m last accepted kept key_is.
    always c.write_line.result (plain_last m accepted last c.args.self.now kept c.args.line.now c.args.key.now key_is c.if-not-self.true)

pub returns-then-repeats_last-clause-sent : goal.returns-then-repeats_last-clause-sent
returns-then-repeats_last-clause-sent g c = λ m last accepted kept key_is.
    let w = g.W.Write.contents in
    let done : Result (Unit {0}) MergeError = Ok tt in
    subst (λ (bytes : List ℕ). Sends done (w c.args.writer.now) (w c.args.writer.now) bytes)
    (sym (again_text m accepted last c.args.self.now kept c.args.line.now c.args.key.now key_is c.repeats_last.result c.repeats_last.ensures c.if-not-self.false c.if-repeats_last.true))
    (sends-nothing done (w c.args.writer.now))

pub returns-then-repeats_last-clause-kept : goal.returns-then-repeats_last-clause-kept
returns-then-repeats_last-clause-kept g c = λ m last accepted kept key_is.
    again_last m accepted last c.args.self.now kept c.args.line.now c.args.key.now key_is c.repeats_last.result c.repeats_last.ensures c.if-not-self.false c.if-repeats_last.true

pub returns-in-Ok-clause-sent : goal.returns-in-Ok-clause-sent
returns-in-Ok-clause-sent g c = λ m last accepted kept key_is.
    let w = g.W.Write.contents in
    subst (λ (bytes : List ℕ). Sends c.write_line-in-Ok.result (w c.args.writer.now) (w c.write_line-in-Ok.new.writer) bytes)
    (ap (λ (n : ℕ). c.args.line.now ++ n ∷ []) c.in-Ok.ensures.kept.separator
    ∙ first_text m accepted last c.args.self.now kept c.args.line.now c.args.key.now key_is c.repeats_last.result c.repeats_last.ensures c.if-not-self.false c.if-repeats_last.false)
    c.write_line-in-Ok.ensures.sent

pub returns-in-Ok-clause-kept : goal.returns-in-Ok-clause-kept
returns-in-Ok-clause-kept g c = λ m last accepted kept key_is.
    always c.write_line-in-Ok.result
    (first_last m accepted last c.args.self.now kept c.args.line.now c.args.key.now key_is c.repeats_last.result c.repeats_last.ensures c.if-not-self.false c.if-repeats_last.false
    c.keep.new.self c.in-Ok.ensures.kept)

pub returns-in-Err-clause-sent : goal.returns-in-Err-clause-sent
returns-in-Err-clause-sent g c = λ m last accepted kept key_is.
    sends-none c.in-Err.error (g.W.Write.contents c.args.writer.now) (text_of m.separator (written_of m.unique (order_in m) last c.args.line.now))
