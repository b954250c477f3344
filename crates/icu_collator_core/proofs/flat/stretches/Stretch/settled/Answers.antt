use Rattle.std.proofs.Common.{◌≡◌, List, ℕ, ap, false, rules, subst, sym, take, ◌++◌, ◌∙◌}
use Rattle.std.proofs.Math.Seq.{take-length}
use Rattle.icu_collator_core.specs.Stretched.{BeginsWithElements}
use Rattle.icu_collator_core.proofs.readings.StretchedLemmas.{flat_stands, front_stands}
use Rattle.icu_collator_core.proofs.flat.stretches.Stretch.settled.Goals as goal

pub returns-then-self-clause-stands : goal.returns-then-self-clause-stands
returns-then-self-clause-stands g c = λ source numeric text rest front decomposing read apart ok.
    let s = c.args.self.now in
    front_stands source numeric decomposing text s.chars.items s.count s.class s.is_rough c.args.elements.now.items rest read front apart ok

pub returns-then-self-clause-within : goal.returns-then-self-clause-within
returns-then-self-clause-within g c = λ source numeric text read. read.counted

pub returns-clause-stands : goal.returns-clause-stands
returns-clause-stands g c = λ source numeric text rest front decomposing read apart ok.
    let s = c.args.self.now in
    let items = c.args.elements.now.items in
    let smooth : s.is_rough ≡ false = search rules in
    let zero_class : s.class ≡ 0 = search rules in
    subst (λ (l : List ℕ). BeginsWithElements source numeric front (text ++ rest) l) (sym (ap (λ (n : ℕ). take n items) c.len.ensures ∙ take-length items))
    (flat_stands source numeric decomposing text s.chars.items s.count s.class s.is_rough items rest read front apart ok smooth zero_class)
