use Rattle.std.proofs.Common.{[], ◌∷◌, refl}
use Rattle.icu_normalizer_core.specs.FormData.{form_meaning}
use Rattle.icu_normalizer.specs.declared.composing.lone_mark.LoneMark.TheVariants.{Changed, Joined}
use Rattle.icu_normalizer.proofs.composed.LoneMarkLemmas.{lone_changed, lone_passed}
use Rattle.icu_normalizer.proofs.composing.cuts.first_found.Goals as goal

pub returns-in-Apart : goal.returns-in-Apart
returns-in-Apart g c =
    lone_passed g.T.Text.encode g.met.T.Text.encoding (form_meaning c.args.basis) _ (g.T.Text.spelled c.in-Some.lone.1) c.in-Apart.field-0 c.in-Apart.field-1 (rw c.in-Apart.is at c.in-Some.ensures)

pub returns-in-Joined : goal.returns-in-Joined
returns-in-Joined g c =
    let lone = rw c.in-Joined.is at c.in-Some.ensures in
    lone_changed g.T.Text.encode g.met.T.Text.encoding (form_meaning c.args.basis) _ (g.T.Text.spelled c.in-Some.lone.1) (Joined c.in-Joined.field-0) lone c.in-Joined.field-0 [] refl lone.made c.keep_promise.ensures

pub returns-in-Changed : goal.returns-in-Changed
returns-in-Changed g c =
    let lone = rw c.in-Changed.is at c.in-Some.ensures in
    lone_changed g.T.Text.encode g.met.T.Text.encoding (form_meaning c.args.basis) _ (g.T.Text.spelled c.in-Some.lone.1) (Changed c.in-Changed.field-0 c.in-Changed.field-1) lone c.in-Changed.field-0 (c.in-Changed.field-1 ∷ []) refl lone.made c.keep_promise.ensures
