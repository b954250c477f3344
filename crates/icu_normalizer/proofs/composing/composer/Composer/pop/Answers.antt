use Rattle.std.proofs.Common.{◌+◌, ◌<◌, [], ◌∷◌, ◌++◌, length, drop, get_or, refl, sym, ap, ◌∙◌, arith}
use Rattle.std.proofs.lemmas.List.{drop_more, drop_all}
use Rattle.icu_normalizer.specs.Composer.{composing_from, data_of}
use Rattle.icu_normalizer.proofs.composed.ComposerLemmas.{coming_behind, coming_now}
use Rattle.icu_normalizer.proofs.composing.composer.Composer.pop.Goals as goal

pub returns-then-self-len-clause-output : goal.returns-then-self-len-clause-output
returns-then-self-len-clause-output c =
    let k = c.args.self.now in
    let within : k.next < length k.marks.items = omega arith in
    let read = c.index-deref-self.is ∙ ap (λ l. get_or l k.next c.index-deref-self.result) c.deref.ensures in
    let first = drop_more k.marks.items k.next c.index-deref-self.result within ∙ ap (λ x. x ∷ drop (k.next + 1) k.marks.items) (sym read) in
    record {
      at = λ rest.
          coming_behind k rest c.if-not-self.false ∙ ap (λ l. l ++ composing_from (data_of k) k.starter [] rest) first
          ∙ ap (λ l. c.index-deref-self.result ∷ l) (sym (coming_behind _ rest c.if-not-self.false));
    }

pub returns-clause-output : goal.returns-clause-output
returns-clause-output c =
    let k = c.args.self.now in
    record {
      at = λ rest.
          coming_behind k rest c.if-not-self.false
          ∙ ap (λ l. l ++ composing_from (data_of k) k.starter [] rest) (drop_all k.next k.marks.items (omega arith))
          ∙ ap (λ l. composing_from (data_of k) k.starter l rest) (sym c.clear.ensures.items) ∙ sym (coming_now _ rest refl);
    }
