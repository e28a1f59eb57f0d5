-- What a value meets on its way to a variable or an element: the types of the functions that pass it on as their
-- result, and its own. A number of 64 bits that one of them doesn't have ends the run (in C, ISO/IEC 9899:2011,
-- 6.3.1.3, the compiler says what becomes of it).
use Rattle.std.specs.Prelude.{ℕ, ℤ, Bool, true, false, ◌&&◌, ◌||◌, Option, None, Some}
use Rattle.lra_base.specs.NumberTypes.{fits}
use Rattle.lra_base.specs.declared.number_types.NumberType.{NumberType}
use Rattle.lra_base.specs.declared.number_types.NumberType.TheVariants.{Int, Long}
use Rattle.lra_program.specs.declared.receivers.Cell.TheVariants.{Variable, Waiting}
use Rattle.lra_program.specs.declared.receivers.ConversionChain.TheVariants.{Wide, Short, Shortened}
use Rattle.lra_program.specs.{declared.arrays.Array.Array, declared.receivers.ConversionChain.ConversionChain}
use Rattle.lra_program.specs.{declared.receivers.Receiver.Receiver, declared.receivers.Target.Target}

-- a further type stands before those of the way, which are reported as far as they matter
abbrev pub with_conversion : NumberType → ConversionChain → ConversionChain
with_conversion Int Wide = Short
with_conversion Int Short = Short
with_conversion Int Shortened = Shortened
with_conversion Long Wide = Wide
with_conversion Long Short = Shortened
with_conversion Long Shortened = Shortened

-- a function's result goes on this way; `void` has no type
abbrev pub passed_on : Option NumberType → ConversionChain → ConversionChain
passed_on None w = w
passed_on (Some t) w = with_conversion t w

-- a number may go this way
abbrev pub lets_through : ConversionChain → ℤ → Bool
lets_through Wide z = true
lets_through Short z = fits Int z
lets_through Shortened z = fits Int z

-- a value of this type is converted on it from 64 bits to 32
abbrev pub converts : NumberType → ConversionChain → Bool
converts t Wide = false
converts Int Short = false
converts Long Short = true
converts t Shortened = true

-- the variable at the place
abbrev pub variable_at : ℕ → NumberType → Receiver
variable_at place t = record {
  target = Some (record { cell = Variable place; number_type = t });
  conversions = with_conversion t Wide;
}

-- the array's element at the newest index that waits
abbrev pub waiting_in : Array → Receiver
waiting_in a = record {
  target = Some (record { cell = Waiting a.declared; number_type = a.number_type });
  conversions = with_conversion a.number_type Wide;
}

-- a call whose result nothing uses
abbrev pub nobody : Receiver
nobody = record { target = None; conversions = Wide }

-- what a function with this result gives it to, called for the receiver
abbrev pub result_receiver : Option NumberType → Receiver → Receiver
result_receiver t r = record r { conversions = passed_on t r.conversions }

-- a parameter of this type, whose place is reported elsewhere
abbrev pub parameter_of : NumberType → Receiver
parameter_of t = result_receiver (Some t) nobody

abbrev pub is_shorter : NumberType → NumberType → Bool
is_shorter Long Int = true
is_shorter Long Long = false
is_shorter Int t = false

-- a value of this type is converted from 64 bits to 32 on its way to the receiver. (Of each receiver made above the way
-- alone reports it: the target's type is on it.)
abbrev pub shortens : NumberType → Option Target → Bool
shortens t None = false
shortens t (Some x) = is_shorter t x.number_type

abbrev pub converts_to : NumberType → Receiver → Bool
converts_to t r = converts t r.conversions || shortens t r.target

abbrev pub target_accepts : Option Target → ℤ → Bool
target_accepts None z = true
target_accepts (Some t) z = fits t.number_type z

-- the number is one of all types on the way and of the target's
abbrev pub accepts : Receiver → ℤ → Bool
accepts r z = lets_through r.conversions z && target_accepts r.target z
