-- What a device of a given meaning answers to a list of calls.
use Rattle.std.specs.Prelude.{ℕ, List, [], ◌∷◌, Ok, Err, Result}
use Rattle.rows.specs.declared.refusal.Refusal.{Refusal}
use Rattle.device.specs.declared.call.DeviceCall.{DeviceCall}
use Rattle.device.specs.declared.call.DeviceCall.TheVariants.{Put, Empty, Read, Mute, Ask}
use Rattle.device.specs.declared.call.DeviceAnswer.{DeviceAnswer}
use Rattle.device.specs.declared.call.DeviceAnswer.TheVariants.{Done, Holds, Says}
use Rattle.device.specs.declared.exchange.Exchange.{Exchange}
use Rattle.device.specs.States.{DeviceState}
use Rattle.device.specs.Exchanges.{after_all, answered_all, calls_of, written_all}
use Rattle.device.specs.Answers.{put_answer, after_put, empty_answer, after_empty, read_answer, after_mute, ask_answer, written_by}

-- an answer as a value: what was granted, or the refusal
abbrev pub Answer : Type 0
Answer = Result DeviceAnswer Refusal

abbrev pub answered_by : {X : Type 0} → (X → DeviceAnswer) → Result X Refusal → Answer
answered_by granted (Ok x) = Ok (granted x)
answered_by granted (Err e) = Err e

-- one call: its answer, and the meaning after it
abbrev pub device_step : DeviceCall → DeviceState → Answer × DeviceState
device_step (Put slot row) s = (answered_by (λ _. Done) (put_answer s slot row), after_put s slot row)
device_step (Empty slot) s = (answered_by (λ _. Done) (empty_answer s slot), after_empty s slot)
device_step (Read slot) s = (answered_by Holds (read_answer s slot), s)
device_step (Mute on) s = (Ok Done, after_mute s on)
device_step (Ask number) s = (answered_by Says (ask_answer s number), s)

-- the slots that one call has put or emptied
abbrev pub call_writes : DeviceState → DeviceCall → List ℕ
call_writes s (Put slot row) = written_by slot (put_answer s slot row)
call_writes s (Empty slot) = written_by slot (empty_answer s slot)
call_writes s (Read slot) = []
call_writes s (Mute on) = []
call_writes s (Ask number) = []

-- the answers to a list of calls, and the meaning after them all
abbrev pub answers_to : DeviceState → List DeviceCall → List Answer
answers_to s [] = []
answers_to s (c ∷ calls) = (device_step c s).0 ∷ answers_to (device_step c s).1 calls

abbrev pub after_calls : DeviceState → List DeviceCall → DeviceState
after_calls = after_all device_step

-- the exchanges with each answer beside its call
abbrev pub answered : DeviceState → List (Exchange DeviceCall Answer) → List (Exchange DeviceCall Answer)
answered s exchanges = answered_all device_step s (calls_of exchanges)

-- the slots that a list of calls has put or emptied, in order
abbrev pub writes_of : DeviceState → List DeviceCall → List ℕ
writes_of = written_all call_writes device_step
