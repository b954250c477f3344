use Rattle.collate_laws.proofs.UnchangedLemmas.{orders_alike, texts_alike}
use Rattle.collate_laws.proofs.unchanged.unchanged_texts_answer_alike.Goals as goal

pub returns : goal.returns
returns c = record {
  texts = λ old new options more preferences preferred a b text accepted also settings first second resolved unchanged scalars.
      texts_alike old new options more preferences preferred a b accepted also settings first second resolved text unchanged scalars;
  orders = λ old new options more preferences preferred a b x y accepted also settings first second resolved one two scalars too.
      orders_alike old new options more preferences preferred a b accepted also settings first second resolved x y one two scalars too;
}
