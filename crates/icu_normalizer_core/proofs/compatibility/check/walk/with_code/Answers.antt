use Rattle.std.proofs.Common.{◌≡◌, ℕ, ◌+◌, sym, subst, ◌∙◌}
use Rattle.std.specs.Char.{IsScalar}
use Rattle.std.proofs.lemmas.Bool.{false≢true}
use Rattle.icu_normalizer_core.specs.declared.compatibility.check.walk.Faults.{Faults}
use Rattle.icu_normalizer_core.specs.CanonicalMeaning.{lists_of}
use Rattle.icu_normalizer_core.specs.CompatibilityWalks.{AreFaultsBelow}
use Rattle.icu_normalizer_core.specs.Words.{word_lists}
use Rattle.icu_normalizer_core.proofs.accepted.AcceptedTables.{full_scalars}
use Rattle.icu_normalizer_core.proofs.compatible.CompatibilityWalkLemmas.{faults_same, faults_next}
use Rattle.icu_normalizer_core.proofs.compatibility.check.walk.with_code.Goals as goal

pub returns-in_default : goal.returns-in_default
returns-in_default c =
    faults_same (lists_of c.args.tables.now) (word_lists c.args.words) c.args.code c.args.faults c.requires.below (λ scalar. c.in_default.ensures.value scalar)

pub has_good_list-requires : goal.has_good_list-requires
has_good_list-requires c =
    let at = c.in-Some.ensures.value.1 in
    full_scalars (lists_of c.args.tables.now) c.requires.accepted c.in-Some.c (subst IsScalar (sym at) c.in-Some.ensures.value.0)

pub returns : goal.returns
returns c =
    let lists = lists_of c.args.tables.now in
    let words = word_lists c.args.words in
    let at : c.in-Some.c ≡ c.args.code = c.in-Some.ensures.value.1 in
    let next : Faults = record { full_list = c.least-full_list.result; built_in = c.least-built_in.result } in
    subst (λ (k : ℕ). AreFaultsBelow lists words (k + 1) next) at
    (faults_next lists words c.in-Some.c c.args.faults (subst (λ (k : ℕ). AreFaultsBelow lists words k c.args.faults) (sym at) c.requires.below) next
    c.has_good_list.result c.is_fixed.result (subst IsScalar (sym at) c.in-Some.ensures.value.0)
    (λ bad. false≢true (sym bad ∙ sym c.has_good_word.ensures ∙ c.if-not-has_good_word.false))
    c.has_good_list.ensures.good c.has_good_list.ensures.bad c.is_fixed.ensures.good c.is_fixed.ensures.bad
    (record { kept = c.least-full_list.ensures.found; none = c.least-full_list.ensures.good; some = c.least-full_list.ensures.bad })
    (record { kept = c.least-built_in.ensures.found; none = c.least-built_in.ensures.good; some = c.least-built_in.ensures.bad }))
