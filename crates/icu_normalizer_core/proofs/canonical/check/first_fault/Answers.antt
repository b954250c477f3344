use Rattle.icu_normalizer_core.proofs.canonical.check.first_fault.Goals as goal

pub first_bad_list-requires-clause-done : goal.first_bad_list-requires-clause-done
first_bad_list-requires-clause-done c = rw c.deref.ensures.value c.in_ok-settled.ensures.done

pub first_loop-requires-clause-done : goal.first_loop-requires-clause-done
first_loop-requires-clause-done c = rw c.deref-2.ensures.value c.in_ok-settled.ensures.done
