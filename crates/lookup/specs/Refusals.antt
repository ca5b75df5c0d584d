-- What an answer says whose refusal is of any type that tells a number and a place.
use Rattle.std.specs.Prelude.{ℕ, Result, Ok, Err}
use Rattle.reading.specs.Replies.{Reply, gives, refuses}

-- what an answer to a call says, where a refusal's number and place are told by two functions
abbrev pub reply_by : {A E : Type 0} → (E → ℕ) → (E → ℕ) → Result A E → Reply A
reply_by number place (Ok a) = gives a
reply_by number place (Err e) = refuses (number e) (place e)
