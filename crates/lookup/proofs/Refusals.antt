-- Of a reader's refusals the answer says what it does of any that tell a number and a place. Assumes
-- nothing.
use Rattle.std.specs.Prelude.{◌≡◌, Result, Ok, Err}
use mathlib.Core.Path.{refl}
use Rattle.reading.specs.declared.Refusal.{Refusal}
use Rattle.reading.specs.Replies.{as_reply, reason_number}
use Rattle.lookup.specs.Refusals.{reply_by}

pub reply_by_refusal : {A : Type 0} (found : Result A Refusal) → reply_by (λ e. reason_number e.why) (λ e. e.place) found ≡ as_reply found
reply_by_refusal (Ok a) = refl
reply_by_refusal (Err e) = refl
