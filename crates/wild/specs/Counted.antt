-- An answer is counted as a step that was taken or as one that was turned away.
use Rattle.std.specs.Prelude.{◌+◌, Bool, true, false, cond, ◌≡◌}
use Rattle.std.proofs.Common.{arith}
use Rattle.book.specs.declared.Answer.{Answer}
use Rattle.book.specs.declared.Answer.TheVariants.{Refused, Answered, Own, Read}
use Rattle.book.specs.Cases.{by_test}
use Rattle.wild.specs.declared.Count.{Count}

abbrev pub is_refused : Answer → Bool
is_refused (Refused n) = true
is_refused (Answered a b) = false
is_refused (Own v) = false
is_refused (Read s) = false

unfoldable pub counted : Count → Answer → Count
counted n a = record { taken = cond (is_refused a) n.taken (n.taken + 1); away = cond (is_refused a) (n.away + 1) n.away }

-- as one more, either way
pub one_more : (n : Count) (a : Answer) → (counted n a).taken + (counted n a).away ≡ n.taken + n.away + 1
unfolding counted
one_more n a = by_test (is_refused a) (λ e. rw e (omega arith)) (λ e. rw e (omega arith))
