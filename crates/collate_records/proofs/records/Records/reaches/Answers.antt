use Rattle.std.proofs.Common.{ℕ, Bool, false, List, All, length, sym, subst, ◌∙◌}
use Rattle.std.proofs.lemmas.Bool.{MatchBool-at_false, OnTrue_at}
use Rattle.std.proofs.lemmas.Iterator.Consumers.{YieldsList-end, YieldsList-from_first, YieldsList-turn}
use Rattle.std.proofs.lemmas.List.Elements.{All-map, All-nil}
use Rattle.icu_normalizer_core.specs.Decoding.{utf8_chars}
use Rattle.icu_normalizer_core.proofs.decoded.DecodedLemmas.{utf8_scalars}
use Rattle.collate_rules.specs.Meaning.{step_of}
use Rattle.collate_records.specs.Reaching.{brought_within}
use Rattle.collate_records.proofs.comparing.ReachingLemmas.{all_push, none_of_text, one_of_text}
use Rattle.collate_records.proofs.records.Records.reaches.Goals as goal

pub loop-c-init : goal.loop-c-init
loop-c-init g c = All-nil _

pub loop-c-preserved : goal.loop-c-preserved
loop-c-preserved g c =
    all_push (λ (x : ℕ). All (λ (d : ℕ). goal.F-post g c.args.is_one d false) (brought_within (step_of c.args.self.now.lines) 0x110000 x)) c.loop-c.yielded c.in-Some.c c.loop-c.invariant
    (MatchBool-at_false _ _ c.if-reaches_within.false c.reaches_within.ensures.none)

pub returns-then-reaches_within : goal.returns-then-reaches_within
returns-then-reaches_within g c =
    let Answers : ℕ → Bool → Type 0 = goal.F-post g c.args.is_one
    in let text = utf8_chars c.args.text.now
    in let turn = YieldsList-turn (YieldsList-from_first (λ (x : ℕ). x) (λ (rest : List ℕ). rest) text (c.into_iter-c-iterator.ensures.into_iter_gives ∙ c.decode_utf8-c-items.ensures.chars)) c.loop-c.yielded _ c.loop-c.yielded_by _ _ c.in-Some.c c.in-Some.is c.next.ensures.steps
    in one_of_text (step_of c.args.self.now.lines) Answers text c.in-Some.c (length c.loop-c.yielded, turn.0, sym turn.1) (OnTrue_at c.if-reaches_within.true c.reaches_within.ensures.one)

pub returns : goal.returns
returns g c =
    let Fails : ℕ → Type 0 = λ d. goal.F-post g c.args.is_one d false
    in let text = utf8_chars c.args.text.now
    in let Each : ℕ → Type 0 = λ x. All Fails (brought_within (step_of c.args.self.now.lines) 0x110000 x)
    in let ended = YieldsList-end (YieldsList-from_first (λ (x : ℕ). x) (λ (rest : List ℕ). rest) text (c.into_iter-c-iterator.ensures.into_iter_gives ∙ c.decode_utf8-c-items.ensures.chars)) c.loop-c.yielded _ c.loop-c.yielded_by _ _ c.in-None.is c.next.ensures.steps
    in none_of_text c.args.self.now.lines Fails text c.keep_rules.ensures.canonical (utf8_scalars c.args.text.now) (subst (All Each) ended.0 (All-map Each (λ (x : ℕ). x) c.loop-c.yielded c.loop-c.invariant))
