use Rattle.std.proofs.Common.{◌≡◌, ℕ, ◌<◌, ◌⊎◌, ◌∷◌, [], true, List, Option, ⊎_elim, refl, sym, ap, subst, ◌∙◌, arith}
use Rattle.std.specs.Option.{is_some, unwrap_or}
use Rattle.std.proofs.lemmas.Bool.{false≢true}
use Rattle.icu_normalizer_core.specs.BuiltIn.{built_in_class, built_in_step}
use Rattle.icu_normalizer_core.specs.Canonical.{IsFree}
use Rattle.icu_normalizer_core.specs.CanonicalMeaning.{meaning}
use Rattle.icu_normalizer_core.specs.CanonicalWords.{states_list}
use Rattle.icu_normalizer_core.specs.CharacterWords.{IsWordOf}
use Rattle.icu_normalizer_core.specs.Settled.{left_items}
use Rattle.icu_normalizer_core.proofs.building.AllStepLemmas.{cases_step}
use Rattle.icu_normalizer_core.proofs.building.FullWordLemmas.{class_kept, fixed_word, left_characters, left_nonempty, list_fits, other_starter, own_word, stated_word}
use Rattle.icu_normalizer_core.proofs.building.MappingReadLemmas.{decomposing}
use Rattle.icu_normalizer_core.proofs.builder.mappings.Mappings.full_word.Goals as goal

pub unlisted_word-requires-clause-bound : goal.unlisted_word-requires-clause-bound
unlisted_word-requires-clause-bound c =
    subst (λ (k : ℕ). k < 255) (sym c.class.ensures) ((decomposing c.args.self c.requires.sound).classes c.args.c c.ranges.c.0)

pub unlisted_word-requires-clause-class : goal.unlisted_word-requires-clause-class
unlisted_word-requires-clause-class c =
    subst (λ (k : ℕ). unwrap_or (built_in_class c.args.c) k ≡ k) (sym c.class.ensures) (class_kept c.args.self c.requires.sound c.args.c)

own_of : (c : ℕ) (list : List ℕ) → IsFree c → (is_some (built_in_step c) ≡ true) ⊎ (list ≡ c ∷ []) → list ≡ c ∷ []
own_of c list free case = ⊎_elim (λ fixed. absurd (false≢true (sym (ap (λ (o : Option (List ℕ)). is_some o) free) ∙ fixed))) (λ own. own) case

pub returns-then-is_unlisted-clause-says : goal.returns-then-is_unlisted-clause-says
returns-then-is_unlisted-clause-says c =
    let says : (s24 : List ℕ) → IsWordOf ((meaning c.args.self.tables.now).class c.args.c) [] s24 c.args.c c.unlisted_word.result =
    λ s24. subst (λ (k : ℕ). IsWordOf k [] s24 c.args.c c.unlisted_word.result) c.class.ensures (c.unlisted_word.ensures.says s24) in
    ⊎_elim
    (λ free.
    own_word c.args.self c.requires.sound c.args.c c.unlisted_word.result c.args.scalars24.now.items c.args.left.now free c.requires.starts c.requires.few
    (own_of c.args.c (left_items c.args.left.now) free c.if-is_unlisted.ensures) says)
    (λ w. fixed_word c.args.self c.requires.sound c.args.c c.unlisted_word.result w.0 c.args.scalars24.now.items w.1 says)
    (cases_step (built_in_step c.args.c))

pub list_word-requires-clause-scalars : goal.list_word-requires-clause-scalars
list_word-requires-clause-scalars c = left_characters c.args.self c.requires.sound c.args.c c.args.left.now c.ranges.c.0 c.requires.starts

pub list_word-requires-clause-some : goal.list_word-requires-clause-some
list_word-requires-clause-some c = left_nonempty c.args.self c.requires.sound c.args.c c.args.left.now c.requires.starts

pub returns-clause-says : goal.returns-clause-says
returns-clause-says c =
    let other = c.if-is_unlisted.ensures in
    let starter = other_starter c.args.self c.requires.sound c.args.c c.args.left.now c.ranges.c.0 other.0 c.requires.starts other.1 in
    stated_word c.args.self c.requires.sound c.args.c c.in_ok-word.word c.list_word.new.scalars24.items c.args.left.now starter c.requires.starts c.requires.few (c.in_ok-word.ensures.states [] refl)

pub returns-clause-grows : goal.returns-clause-grows
returns-clause-grows c =
    let other = c.if-is_unlisted.ensures in
    let grown = c.in_ok-word.ensures.grows in
    (grown.0, grown.1, omega (arith, grown.2, list_fits c.args.self c.requires.sound c.args.c c.args.left.now other.0 c.requires.starts c.requires.few other.1))

pub returns-clause-syllable : goal.returns-clause-syllable
returns-clause-syllable c = λ zero. absurd (false≢true (ap states_list (sym zero) ∙ (c.in_ok-word.ensures.states [] refl []).states))
