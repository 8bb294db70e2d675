-- What bounds a field of an answer: what is counted is no more than the bytes that it is counted in, of which no call takes or writes more
-- than 65,535; and the number of a reason is a byte.
-- Assumes nothing.
use Prim.Native.Nat.{ℕ, ◌≤◌, ◌<◌}
use mathlib.Core.Path.{◌≡◌, refl}
use native.Mathlib.Omega.{arith}
use lib.Dec.{leb}
use Rattle.std.specs.Prelude.{Result, Ok, Err}
use Rattle.wire.specs.Answer.{count_meaning, limited}
use Rattle.wire.specs.Refusal.{number_of, list_limit}
use Rattle.wire.specs.Verdict.{Verdict, answer_by}
use Rattle.wire.specs.declared.refusal.Refusal.{Refusal}
use Rattle.wire.specs.declared.refusal.Refusal.TheVariants as R
use Rattle.wire.proofs.ChoiceLaws.{pick_any, pick_leb}
use Rattle.routes.specs.Promises.{verdict_in}
use Rattle.routes.specs.declared.Routes.{Routes}
use Rattle.words.specs.Word.{in_fields, Narrow}
use Rattle.words.proofs.WordLaws.{refused_narrow, number_narrow}

-- the number of a reason, and of an answer that may have one
number_low : (r : Refusal) → number_of r < 256
number_low R.TooLong = omega arith
number_low R.Truncated = omega arith
number_low R.MessageLength = omega arith
number_low R.MessageType = omega arith
number_low R.ShortBody = omega arith
number_low R.BadMarker = omega arith
number_low R.PrefixLength = omega arith
number_low R.OneByteSection = omega arith
number_low R.SegmentType = omega arith
number_low R.AggregatorLength = omega arith
number_low R.NoRoom = omega arith
number_low R.LongSegment = omega arith
number_low R.WideNumber = omega arith
number_low R.NotWritable = omega arith
number_low R.RepeatedMpNlri = omega arith
number_low R.EmptySegment = omega arith
number_low R.OtherFamily = omega arith
number_low R.NextHopLength = omega arith
number_low R.NotAnIndex = omega arith
number_low R.NoSuchRoute = omega arith

pub verdict_low : (a : Result Routes Refusal) → verdict_in a < 256
verdict_low (Ok a) = omega arith
verdict_low (Err r) = number_low r

-- what holds of what is good and of every refusal holds by any verdict
pub answer_any : {X : Type 0} (P : X → Type 0) (v : Verdict) (good : X) (refused : Refusal → X) → P good → ((r : Refusal) → P (refused r)) → P (answer_by v good refused)
answer_any P (Ok tt) good refused h k = h
answer_any P (Err r) good refused h k = k r

-- a count is narrow where it is no more than the limit of a list
pub count_narrow : (a : Result ℕ Refusal) → ((n : ℕ) → a ≡ Ok n → n ≤ list_limit) → Narrow (in_fields (count_meaning a))
count_narrow (Ok n) few = number_narrow n (few n refl)
count_narrow (Err r) few = refused_narrow (number_of r)

-- what is written under such a limit
pub limited_narrow : (limit size places : ℕ) → limit ≤ list_limit → Narrow (in_fields (count_meaning (limited limit size places)))
unfolding limited
limited_narrow limit size places le =
    let Fine : Result ℕ Refusal → Type 0 = λ a. Narrow (in_fields (count_meaning a)) in
    pick_leb Fine size limit _ (Err R.TooLong)
    (λ short. pick_any Fine (leb size places) (Ok size) (Err R.NoRoom) (number_narrow size (omega arith)) (refused_narrow _))
    (λ _. refused_narrow _)
