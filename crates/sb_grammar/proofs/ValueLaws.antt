-- The laws of single tokens and what is made of them.
use Rattle.std.proofs.Common.{◌≡◌, pos, Bool, true, false, [], Some, None, refl}
use Rattle.std.specs.Prelude.{codes}
use Rattle.std.specs.Str.{is_utf8, chars}
use lib.Utf8.{encode}
use Rattle.sb_log.specs.declared.refusals.ValueKind.{ValueKind}
use Rattle.sb_grammar.specs.declared.word.Fixed.TheVariants as fixed
use Rattle.sb_grammar.specs.declared.tree.BrokerInstance.TheVariants as instances
use Rattle.sb_grammar.specs.Words.{is_fixed, fixed_at, example}
use Rattle.sb_grammar.specs.Rules.{token, map_rule, Any}
use Rattle.sb_grammar.specs.Values.{sign, word, is_reserved, name, name_of, example_name, qname, variable, variable_of, example_variable, text, text_of, example_text, number, number_of, example_number, on_off, on_off_of, kind_word_of, size_of, kind_by, kind_rest, example_kind, kind, broker_of, example_broker, broker}
use Rattle.sb_grammar.proofs.Sounds.{Sound, token-is, sign-is, map-is, also-is, word-is, then-is, alt-is, pure-is}

name_example : name_of example_name ≡ Some (codes "x")
unfolding name_of is_reserved is_fixed is_utf8 chars encode
name_example = refl

pub name-is : Sound name Any
name-is = token-is name_of example_name (codes "x") name_example

name_apart : fixed_at fixed.Schema example_name ≡ None
unfolding fixed_at is_fixed
name_apart = refl

pub qname-is : Sound qname Any
unfolding qname
qname-is = alt-is (fixed_at fixed.Schema) (λ _. word fixed.Dot name) name Any (λ _. word-is fixed.Dot name Any name-is) name-is (λ follow g. name_apart)

variable_example : variable_of example_variable ≡ Some (codes "@")
unfolding variable_of is_utf8 chars encode
variable_example = refl

pub variable-is : Sound variable Any
variable-is = token-is variable_of example_variable (codes "@") variable_example

text_example : text_of example_text ≡ Some []
unfolding text_of is_utf8 chars encode
text_example = refl

pub text-is : Sound text Any
text-is = token-is text_of example_text [] text_example

number_example : number_of example_number ≡ Some (pos 1)
unfolding number_of
number_example = refl

pub number-is : Sound number Any
number-is = token-is number_of example_number (pos 1) number_example

on_example : on_off_of (example fixed.On) ≡ Some true
unfolding on_off_of is_fixed
on_example = refl

pub on_off-is : Sound on_off Any
on_off-is = token-is on_off_of (example fixed.On) true on_example

kind_example : kind_word_of (example fixed.BigInt) ≡ Some example_kind
unfolding kind_word_of is_fixed
kind_example = refl

size_example : size_of (example fixed.Max) ≡ Some tt
unfolding size_of is_fixed
size_example = refl

kind_by-is : (k : ValueKind) (b : Bool) → Sound (kind_by k b) Any
kind_by-is k false = pure-is k Any
kind_by-is k true = word-is fixed.Open _ Any (also-is (token size_of (example fixed.Max) tt) (map_rule (λ _. k) (sign fixed.Close)) Any (token-is size_of (example fixed.Max) tt size_example) (map-is (λ _. k) (sign fixed.Close) Any (sign-is fixed.Close)))

pub kind-is : Sound kind Any
unfolding kind
kind-is = then-is (token kind_word_of (example fixed.BigInt) example_kind) kind_rest Any (token-is kind_word_of (example fixed.BigInt) example_kind kind_example) (λ k. kind_by-is k.kind k.is_sized)

broker_example : broker_of example_broker ≡ Some instances.Current
unfolding broker_of
broker_example = refl

pub broker-is : Sound broker Any
broker-is = token-is broker_of example_broker instances.Current broker_example
