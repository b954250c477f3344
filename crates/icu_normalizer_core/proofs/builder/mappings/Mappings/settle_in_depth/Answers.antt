use Rattle.std.proofs.Common.{◌≡◌, ℕ, ◌<◌, List, [], ◌∷◌, ◌++◌, set, slice_get, Bool, true, false, Some, sym, ap, subst, ◌∙◌}
use Rattle.icu_normalizer_core.specs.SettledMappings.{steps_in}
use Rattle.icu_normalizer_core.proofs.settling.DepthLemmas.{looks_left, fewer_pushed}
use Rattle.icu_normalizer_core.proofs.settling.MappingDepthLemmas.{IsMappingWalk, mapping_popped, mapping_pushed}
use Rattle.icu_normalizer_core.proofs.builder.mappings.Mappings.settle_in_depth.Goals as goal

pub loop-index-smaller-in-Continue-branch-4 : goal.loop-index-smaller-in-Continue-branch-4
loop-index-smaller-in-Continue-branch-4 c =
    let visited : List Bool = c.loop-index.visited.items in
    let needed : ℕ = c.in-Some-needed_at.needed in
    subst (λ (path : List ℕ). looks_left (set visited needed true) path < looks_left visited c.loop-index.path.items)
    (sym (c.in_ok-push-2.ensures.items ∙ ap (λ (path : List ℕ). path ++ needed ∷ []) c.in_ok-push.ensures.items))
    (fewer_pushed visited c.loop-index.path.items c.pop.new.self.items c.in-Some.index needed c.in-Some.ensures.items
    (subst (λ (l : List Bool). slice_get l needed ≡ Some false) c.deref.ensures.value c.in-Some-needed_at.ensures))

pub loop-index-preserved-in-Continue-branch-4 : goal.loop-index-preserved-in-Continue-branch-4
loop-index-preserved-in-Continue-branch-4 c =
    let visited : List Bool = c.loop-index.visited.items in
    let needed : ℕ = c.in-Some-needed_at.needed in
    let popped =
    mapping_popped (steps_in c.args.self) c.args.self.given.now c.loop-index.settled c.settle_at.new.settled visited c.loop-index.path.items c.pop.new.self.items c.in-Some.index
    c.in-Some.ensures.items c.loop-index.invariant c.settle_at.ensures.starts in
    subst (λ (path : List ℕ). IsMappingWalk (steps_in c.args.self) c.args.self.given.now c.settle_at.new.settled (set visited needed true) path)
    (sym (c.in_ok-push-2.ensures.items ∙ ap (λ (path : List ℕ). path ++ needed ∷ []) c.in_ok-push.ensures.items))
    (mapping_pushed (steps_in c.args.self) c.args.self.given.now c.settle_at.new.settled visited c.pop.new.self.items c.in-Some.index needed popped.1 popped.0
    (subst (λ (l : List Bool). slice_get l needed ≡ Some false) c.deref.ensures.value c.in-Some-needed_at.ensures))
