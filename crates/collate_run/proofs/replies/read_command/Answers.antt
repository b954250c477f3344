use Rattle.std.proofs.Common.{codes, sym, ◌∙◌, ap, bytes_eq}
use Rattle.collate_run.proofs.commands.CommandLemmas.{rest_after-some, rest_after-none, command-add, command-remove, command-find, command-between, command-key, command-reload, command-list, command-unknown}
use Rattle.collate_run.proofs.replies.read_command.Goals as goal

pub returns-in-Some : goal.returns-in-Some
returns-in-Some c =
    let line = c.args.line.now in
    let found = c.in-Some.ensures.cases in
    command-add line c.in-Some.name.now
    (rest_after-some (codes "add ") line c.in-Some.name.now found.0 found.1)

pub returns-in-Some-strip_prefix : goal.returns-in-Some-strip_prefix
returns-in-Some-strip_prefix c =
    let line = c.args.line.now in
    let found = c.in-Some-strip_prefix.ensures.cases in
    command-remove line c.in-Some-strip_prefix.name.now
    (rest_after-none (codes "add ") line c.in_default.ensures.cases)
    (rest_after-some (codes "remove ") line c.in-Some-strip_prefix.name.now found.0 found.1)

pub returns-in-Some-strip_prefix-2 : goal.returns-in-Some-strip_prefix-2
returns-in-Some-strip_prefix-2 c =
    let line = c.args.line.now in
    let found = c.in-Some-strip_prefix-2.ensures.cases in
    command-find line c.in-Some-strip_prefix-2.name.now
    (rest_after-none (codes "add ") line c.in_default.ensures.cases)
    (rest_after-none (codes "remove ") line c.in_default-strip_prefix.ensures.cases)
    (rest_after-some (codes "find ") line c.in-Some-strip_prefix-2.name.now found.0 found.1)

pub returns-in-Some-strip_prefix-3 : goal.returns-in-Some-strip_prefix-3
returns-in-Some-strip_prefix-3 c =
    let line = c.args.line.now in
    let found = c.in-Some-strip_prefix-3.ensures.cases in
    c.read_between.ensures ∙ command-between line c.in-Some-strip_prefix-3.names.now
    (rest_after-none (codes "add ") line c.in_default.ensures.cases)
    (rest_after-none (codes "remove ") line c.in_default-strip_prefix.ensures.cases)
    (rest_after-none (codes "find ") line c.in_default-strip_prefix-2.ensures.cases)
    (rest_after-some (codes "between ") line c.in-Some-strip_prefix-3.names.now found.0 found.1)

pub returns-in-Some-strip_prefix-4 : goal.returns-in-Some-strip_prefix-4
returns-in-Some-strip_prefix-4 c =
    let line = c.args.line.now in
    let found = c.in-Some-strip_prefix-4.ensures.cases in
    command-key line c.in-Some-strip_prefix-4.name.now
    (rest_after-none (codes "add ") line c.in_default.ensures.cases)
    (rest_after-none (codes "remove ") line c.in_default-strip_prefix.ensures.cases)
    (rest_after-none (codes "find ") line c.in_default-strip_prefix-2.ensures.cases)
    (rest_after-none (codes "between ") line c.in_default-strip_prefix-3.ensures.cases)
    (rest_after-some (codes "key ") line c.in-Some-strip_prefix-4.name.now found.0 found.1)

pub returns-in-Some-strip_prefix-5 : goal.returns-in-Some-strip_prefix-5
returns-in-Some-strip_prefix-5 c =
    let line = c.args.line.now in
    let found = c.in-Some-strip_prefix-5.ensures.cases in
    c.read_reload.ensures ∙ command-reload line c.in-Some-strip_prefix-5.digits.now
    (rest_after-none (codes "add ") line c.in_default.ensures.cases)
    (rest_after-none (codes "remove ") line c.in_default-strip_prefix.ensures.cases)
    (rest_after-none (codes "find ") line c.in_default-strip_prefix-2.ensures.cases)
    (rest_after-none (codes "between ") line c.in_default-strip_prefix-3.ensures.cases)
    (rest_after-none (codes "key ") line c.in_default-strip_prefix-4.ensures.cases)
    (rest_after-some (codes "reload ") line c.in-Some-strip_prefix-5.digits.now found.0 found.1)

pub returns-then-eq : goal.returns-then-eq
returns-then-eq c =
    let line = c.args.line.now in
    command-list line line
    (rest_after-none (codes "add ") line c.in_default.ensures.cases)
    (rest_after-none (codes "remove ") line c.in_default-strip_prefix.ensures.cases)
    (rest_after-none (codes "find ") line c.in_default-strip_prefix-2.ensures.cases)
    (rest_after-none (codes "between ") line c.in_default-strip_prefix-3.ensures.cases)
    (rest_after-none (codes "key ") line c.in_default-strip_prefix-4.ensures.cases)
    (rest_after-none (codes "reload ") line c.in_default-strip_prefix-5.ensures.cases)
    (ap (bytes_eq line) (sym c.as_slice.ensures) ∙ sym c.eq.ensures ∙ c.if-eq.true)

pub returns-else-eq : goal.returns-else-eq
returns-else-eq c =
    let line = c.args.line.now in
    command-unknown line line
    (rest_after-none (codes "add ") line c.in_default.ensures.cases)
    (rest_after-none (codes "remove ") line c.in_default-strip_prefix.ensures.cases)
    (rest_after-none (codes "find ") line c.in_default-strip_prefix-2.ensures.cases)
    (rest_after-none (codes "between ") line c.in_default-strip_prefix-3.ensures.cases)
    (rest_after-none (codes "key ") line c.in_default-strip_prefix-4.ensures.cases)
    (rest_after-none (codes "reload ") line c.in_default-strip_prefix-5.ensures.cases)
    (ap (bytes_eq line) (sym c.as_slice.ensures) ∙ sym c.eq.ensures ∙ c.if-eq.false)
