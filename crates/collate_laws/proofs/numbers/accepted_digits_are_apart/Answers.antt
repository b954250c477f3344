use Rattle.collate_laws.proofs.DotAboveLemmas.{dots_light}
use Rattle.collate_laws.proofs.NumberLawApartLemmas.{digits_alone, digits_apart, numbers_together}
use Rattle.collate_laws.proofs.numbers.accepted_digits_are_apart.Goals as goal

pub returns : goal.returns
returns c = record {
  alone = λ records accepted none. digits_alone records accepted none;
  apart = λ records accepted apart. digits_apart records accepted apart;
  together = λ records accepted. numbers_together records accepted;
  dots = λ records accepted. dots_light records accepted;
}
