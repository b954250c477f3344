use Rattle.std.proofs.Common.{◌≡◌, [], subst, sym, arith}
use Rattle.icu_collator_core.specs.PrefixFaults.{IsAmong, IsWordIn}
use Rattle.icu_collator_core.specs.TableMeaning.{pools_of}
use Rattle.icu_collator_core.specs.WeightLists.{Grows, IsWordOfData}
use Rattle.icu_collator_core.proofs.apart.GatheringLemmas.{all_codes}
use Rattle.icu_collator_core.proofs.apart.GrowthLemmas.{UpTo, grown_up_to_later, grown_up_to_none, listed, listed_same}
use Rattle.icu_collator_core.proofs.check.apart.character_words.words_of.Goals as goal

pub loop-code-init : goal.loop-code-init
loop-code-init c = record {
  bound = omega arith;
  grown = subst (λ items. Grows (UpTo (IsWordIn c.args.source.now) 0) [] items) (sym c.new-words.ensures.items) (grown_up_to_none (IsWordIn c.args.source.now) []);
}

pub loop-code-preserved : goal.loop-code-preserved
loop-code-preserved c =
    let source = c.args.source.now in
    record {
      bound = c.next_code-code.ensures.bound;
      grown = grown_up_to_later (IsWordIn source) c.loop-code.code c.next_code-code.result c.next_code-code.ensures.onward
          (λ d word from to is.
          let same = c.next_code-code.ensures.gathered d from to in
          (same.0, subst (λ own. IsAmong (pools_of source) own word) same.1 is.1))
          [] c.loop-code.words.items c.gather_at.new.words.items c.loop-code.invariant.grown c.in_ok-gather_at.ensures;
    }

pub returns : goal.returns
returns c =
    let source = c.args.source.now in
    let end : c.loop-code.code ≡ 0x11_0000 = omega (arith, c.loop-code-test.false, c.loop-code.invariant.bound) in
    listed_same (UpTo (IsWordIn source) 0x11_0000) (IsWordOfData source) c.loop-code.words.items
    (all_codes (IsWordIn source) (λ d word h. h.0))
    (listed (UpTo (IsWordIn source) 0x11_0000) c.loop-code.words.items
    (subst (λ n. Grows (UpTo (IsWordIn source) n) [] c.loop-code.words.items) end c.loop-code.invariant.grown))
