use Rattle.std.proofs.Common.{◌∙◌, ap, arith, [], ◌∷◌, ◌≤◌, length}
use Rattle.std.specs.Prelude.{◌&&◌}
use Rattle.icu_collator_core.specs.SettingRules.{never_falls}
use Rattle.icu_collator_core.proofs.weights.SettingLemmas.{groups_read}
use Rattle.icu_collator_core.proofs.check_weights.special_primaries.are_sound_groups.Goals as goal

pub returns-then-not-are_sound_ends : goal.returns-then-not-are_sound_ends
returns-then-not-are_sound_ends c =
    let four : 4 ≤ length c.args.last_primaries.now = omega (arith, c.if-len-lt4.false, c.len.ensures)
    in ap (λ b. b && never_falls (c.at-first.result ∷ c.at-second.result ∷ c.at-third.result ∷ c.at-fourth.result ∷ [])) c.if-not-are_sound_ends.ensures
    ∙ groups_read c.args.numeric_lead c.args.last_primaries.now _ _ _ _ four
    (c.at-first.ensures.item 0) (c.at-second.ensures.item 0) (c.at-third.ensures.item 0) (c.at-fourth.ensures.item 0)

pub returns : goal.returns
returns c =
    let four : 4 ≤ length c.args.last_primaries.now = omega (arith, c.if-len-lt4.false, c.len.ensures)
    in c.never_falls.ensures
    ∙ ap (λ b. b && never_falls (c.at-first.result ∷ c.at-second.result ∷ c.at-third.result ∷ c.at-fourth.result ∷ [])) c.if-not-are_sound_ends.ensures
    ∙ groups_read c.args.numeric_lead c.args.last_primaries.now _ _ _ _ four
    (c.at-first.ensures.item 0) (c.at-second.ensures.item 0) (c.at-third.ensures.item 0) (c.at-fourth.ensures.item 0)
