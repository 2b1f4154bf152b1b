-- The laws of definitions.
use Rattle.std.proofs.Common.{◌≡◌, ℕ, pos, Bool, true, false, not, List, [], ◌∷◌, ◌++◌, Option, Some, None, refl, subst}
use Rattle.std.specs.Prelude.{is_none}
use Rattle.uuid.specs.Text.{by_index}
use Rattle.std.specs.Str.{is_utf8, chars}
use lib.Utf8.{encode}
use Rattle.sb_log.specs.declared.definitions.Sender.TheVariants as senders
use Rattle.sb_grammar.specs.declared.lexeme.Lexeme.{Lexeme}
use Rattle.sb_grammar.specs.declared.choice.Made.{Made}
use Rattle.sb_grammar.specs.declared.choice.Made.TheVariants as made
use Rattle.sb_grammar.specs.declared.choice.QueueOption.{QueueOption}
use Rattle.sb_grammar.specs.declared.choice.QueueOption.TheVariants as queue_option
use Rattle.sb_grammar.specs.declared.choice.QueueOptions.{QueueOptions}
use Rattle.sb_grammar.specs.declared.choice.ActivationOption.{ActivationOption}
use Rattle.sb_grammar.specs.declared.choice.ActivationOption.TheVariants as activation_option
use Rattle.sb_grammar.specs.declared.choice.ActivationOptions.{ActivationOptions}
use Rattle.sb_grammar.specs.declared.choice.RouteOption.{RouteOption}
use Rattle.sb_grammar.specs.declared.choice.RouteOption.TheVariants as route_option
use Rattle.sb_grammar.specs.declared.choice.RouteOptions.{RouteOptions}
use Rattle.sb_grammar.specs.declared.choice.PriorityOption.{PriorityOption}
use Rattle.sb_grammar.specs.declared.choice.PriorityOption.TheVariants as priority_option
use Rattle.sb_grammar.specs.declared.choice.PriorityOptions.{PriorityOptions}
use Rattle.sb_grammar.specs.declared.word.Fixed.TheVariants as fixed
use Rattle.sb_grammar.specs.Words.{is_fixed, fixed_at, example}
use Rattle.sb_grammar.specs.Rules.{Rule, Toks, token, ended, map_rule, pure, barred, Any, head}
use Rattle.sb_grammar.specs.Values.{sign, word, phrase, name, qname, text, number, on_off}
use Rattle.sb_grammar.specs.Options.{Choices, Over, options}
use Rattle.sb_grammar.specs.Stops.{Stops}
use Rattle.sb_grammar.specs.Definitions.{commas, authorization, xml_of, empty_of, validation, message_def, message, sender_of, sent_of, sent_by, contract_def, contract, retention_of, run_as_of, activation_take, activation_next, activation_example, activation_status, activation_procedure, activation_readers, activation_execute, activation_value, activation_choices, no_activation, activation_of, activation, queue_take, queue_next, queue_example, queue_status, queue_retention, queue_activation, queue_poison, queue_value, queue_choices, no_queue_options, queue_def, queue_options, queue, service_def, contracts_part, service, route_bars, route_take, route_next, route_example, address_of, transport_of, example_address, handle_of, example_handle, zero_handle, route_service, route_instance, route_address, route_value, route_choices, no_route_options, route_def, route, priority_take, priority_next, priority_example, any_name_of, any_text_of, level_of, priority_contract, priority_local, priority_remote, priority_level, priority_value, priority_choices, no_priority_options, priority_def, priority_options, priority, table_def, table_columns, table, made_of, made_by, create_rest, alter_queue, alter_rest}
use Rattle.sb_grammar.proofs.Sounds.{Sound, under, anywhere, pure-is, token-is, sign-is, map-is, also-is, word-is, phrase-is, ended-is, bind-is, then-is, optional-is, alt-is, barred-is, commas-is}
use Rattle.sb_grammar.proofs.ValueLaws.{name-is, qname-is, text-is, number-is, on_off-is}
use Rattle.sb_grammar.proofs.OptionLaws.{Fits, options-is}

abbrev pub some_of : {B : Type 0} → B → Option B
some_of b = Some b

some_same : {B : Type 0} (x y : B) → some_of x ≡ some_of y → x ≡ y
some_same x y e = cc

pub none_some : {B P : Type 0} (x : B) → None ≡ some_of x → P
none_some x e = absurd cc

-- the first option that remains is the one
pub fit : {B : Type 0} (take : Lexeme → Option B) (ex : B → Lexeme) (x o : B) → take (ex x) ≡ Some x → some_of x ≡ Some o → take (ex o) ≡ Some o
fit take ex x o h e = subst (λ (y : _). take (ex y) ≡ Some y) (some_same x o e) h

authorization-is : (F : Toks → Type 0) → ((follow : Toks) → F follow → head (fixed_at fixed.Authorization) follow ≡ None) → Sound authorization F
unfolding authorization
authorization-is F apart = optional-is (fixed_at fixed.Authorization) (λ _. name) F (λ _. anywhere name F name-is) apart

empty_example : empty_of (example fixed.Nothing) ≡ Some false
unfolding empty_of is_fixed
empty_example = refl

xml_apart : xml_of (example fixed.Nothing) ≡ None
unfolding xml_of is_fixed
xml_apart = refl

validation-is : Sound validation (λ follow. head (fixed_at fixed.Validation) follow ≡ None)
unfolding validation
validation-is =
    let F : Toks → Type 0 = λ follow. head (fixed_at fixed.Validation) follow ≡ None in
    let r = token empty_of (example fixed.Nothing) false in
    alt-is (fixed_at fixed.Validation) (λ _. word fixed.Equals (barred xml_of r Any)) (pure false) F
    (λ _. anywhere (word fixed.Equals (barred xml_of r Any)) F (word-is fixed.Equals (barred xml_of r Any) Any (barred-is xml_of r Any (token-is empty_of (example fixed.Nothing) false empty_example) (λ follow g. xml_apart))))
    (pure-is false F) (λ follow g. g)

validation-begins : (follow : Toks) → validation.min ++ follow ≡ follow
unfolding validation
validation-begins follow = refl

message-is : Sound message Stops
unfolding message validation
message-is = word-is fixed.Type _ Stops (then-is name _ Stops name-is (λ n.
    bind-is authorization (λ _. map_rule (message_def n) validation) Stops Stops (authorization-is Stops (λ follow g. g.authorization))
    (λ _. map-is (message_def n) validation Stops (under validation (λ follow. head (fixed_at fixed.Validation) follow ≡ None) Stops validation-is (λ follow g. g.validation))) (λ _ follow g. g)))

sender_example : sender_of (example fixed.Any) ≡ Some senders.Any
unfolding sender_of is_fixed
sender_example = refl

sent_by-is : Sound sent_by Any
unfolding sent_by
sent_by-is = then-is name _ Any name-is (λ n. also-is (phrase (fixed.Sent ∷ fixed.By ∷ [])) _ Any (phrase-is (fixed.Sent ∷ fixed.By ∷ [])) (map-is (sent_of n) (token sender_of (example fixed.Any) senders.Any) Any (token-is sender_of (example fixed.Any) senders.Any sender_example)))

-- where members with commas between may end
NoComma : Toks → Type 0
NoComma follow = head (fixed_at fixed.Comma) follow ≡ None

close_comma : (follow : Toks) → head (fixed_at fixed.Comma) (example fixed.Close ∷ follow) ≡ None
unfolding fixed_at is_fixed
close_comma follow = refl

commas_closed : {A B : Type 0} (f : List A → B) (p : Rule A) → Sound p Any → Sound (ended (map_rule f (commas p)) (sign fixed.Close)) Any
commas_closed f p P =
    let F : Toks → Type 0 = λ follow. head (fixed_at fixed.Comma) follow ≡ None in
    ended-is (map_rule f (commas p)) fixed.Close F (map-is f (commas p) F (commas-is p Any F P (λ follow g. tt) (λ follow g. g))) close_comma

contract-is : Sound contract Any
unfolding contract fixed_at is_fixed
contract-is = then-is name _ Any name-is (λ n.
    let F : Toks → Type 0 = λ follow. head (fixed_at fixed.Authorization) follow ≡ None in
    bind-is authorization _ F Any (authorization-is F (λ follow g. g)) (λ _. word-is fixed.Open _ Any (commas_closed (contract_def n) sent_by sent_by-is)) (λ _ follow g. refl))

-- ---- queues

run_as_example : run_as_of (example fixed.Itself) ≡ Some tt
unfolding run_as_of is_fixed
run_as_example = refl

activation_fits : (a b c d : Bool) (o : ActivationOption) → activation_next a b c d ≡ Some o → activation_take a b c d (activation_example o) ≡ Some o
unfolding activation_take is_fixed
activation_fits true b c d o e = fit (activation_take true b c d) activation_example activation_option.Procedure o refl e
activation_fits false true c d o e = fit (activation_take false true c d) activation_example activation_option.Readers o refl e
activation_fits false false true d o e = fit (activation_take false false true d) activation_example activation_option.Status o refl e
activation_fits false false false true o e = fit (activation_take false false false true) activation_example activation_option.Execute o refl e
activation_fits false false false false o e = none_some o e

activation_value-is : (q : ActivationOptions) (o : ActivationOption) → Sound (activation_value q o) Any
unfolding activation_value
activation_value-is q activation_option.Status = word-is fixed.Equals _ Any (map-is (activation_status q) on_off Any on_off-is)
activation_value-is q activation_option.Procedure = word-is fixed.Equals _ Any (map-is (activation_procedure q) qname Any qname-is)
activation_value-is q activation_option.Readers = word-is fixed.Equals _ Any (map-is (activation_readers q) number Any number-is)
activation_value-is q activation_option.Execute = word-is fixed.As _ Any (map-is (activation_execute q) (token run_as_of (example fixed.Itself) tt) Any (token-is run_as_of (example fixed.Itself) tt run_as_example))

activation_choices-fit : Fits activation_choices
activation_choices-fit = record {
  fits = λ q o e. activation_fits (is_none q.procedure) (is_none q.readers) (is_none q.status) (not q.execute) o e;
  unbarred = λ q o. refl;
  values = activation_value-is;
  comma = λ follow. tt;
}

-- options in brackets
options_closed : {S B C : Type 0} (f : S → C) (c : Choices S B) → Fits c → ((follow : Toks) → c.Ends (example fixed.Close ∷ follow)) → (k : ℕ) (s : S) → Sound (ended (map_rule f (options c k s)) (sign fixed.Close)) Any
options_closed f c C ends k s = ended-is (map_rule f (options c k s)) fixed.Close (Over c) (map-is f (options c k s) (Over c) (options-is c C k s)) (λ follow. record { comma = close_comma follow; ends = ends follow })

activation-is : Sound activation Any
unfolding activation
activation-is = word-is fixed.Open _ Any (options_closed activation_of activation_choices activation_choices-fit (λ follow. tt) 3 no_activation)

queue_fits : (a b c d : Bool) (o : QueueOption) → queue_next a b c d ≡ Some o → queue_take a b c d (queue_example o) ≡ Some o
unfolding queue_take is_fixed
queue_fits true b c d o e = fit (queue_take true b c d) queue_example queue_option.Status o refl e
queue_fits false true c d o e = fit (queue_take false true c d) queue_example queue_option.Retention o refl e
queue_fits false false true d o e = fit (queue_take false false true d) queue_example queue_option.Activation o refl e
queue_fits false false false true o e = fit (queue_take false false false true) queue_example queue_option.Poison o refl e
queue_fits false false false false o e = none_some o e

off_apart : retention_of (example fixed.Off) ≡ None
unfolding retention_of is_fixed
off_apart = refl

queue_value-is : (q : QueueOptions) (o : QueueOption) → Sound (queue_value q o) Any
unfolding queue_value
queue_value-is q queue_option.Status = word-is fixed.Equals _ Any (map-is (queue_status q) on_off Any on_off-is)
queue_value-is q queue_option.Retention = word-is fixed.Equals _ Any (map-is (queue_retention q) (barred retention_of (sign fixed.Off) Any) Any (barred-is retention_of (sign fixed.Off) Any (sign-is fixed.Off) (λ follow g. off_apart)))
queue_value-is q queue_option.Activation = map-is (queue_activation q) activation Any activation-is
queue_value-is q queue_option.Poison = also-is (phrase (fixed.Open ∷ fixed.Status ∷ fixed.Equals ∷ [])) _ Any (phrase-is (fixed.Open ∷ fixed.Status ∷ fixed.Equals ∷ [])) (ended-is (map_rule (queue_poison q) on_off) fixed.Close Any (map-is (queue_poison q) on_off Any on_off-is) (λ follow. tt))

queue_choices-fit : Fits queue_choices
queue_choices-fit = record {
  fits = λ q o e. queue_fits (is_none q.status) (not q.retention) (is_none q.activation) (is_none q.poison) o e;
  unbarred = λ q o. refl;
  values = queue_value-is;
  comma = λ follow. tt;
}

-- options at the end of a statement
options_last : {S B : Type 0} (c : Choices S B) → Fits c → ((follow : Toks) → Stops follow → c.Ends follow) → (k : ℕ) (s : S) → Sound (options c k s) Stops
options_last c C ends k s = under (options c k s) (Over c) Stops (options-is c C k s) (λ follow g. record { comma = g.comma; ends = ends follow g })

pub options_end : {S B : Type 0} (c : Choices S B) → Fits c → ((follow : Toks) → Stops follow → c.Ends follow) → (k : ℕ) (s : S) → Sound (options c k s) Stops
options_end c C ends k s = options_last c C ends k s

queue_options-is : Sound queue_options Stops
unfolding queue_options
queue_options-is = alt-is (fixed_at fixed.With) (λ _. options queue_choices 3 no_queue_options) (pure no_queue_options) Stops (λ _. options_last queue_choices queue_choices-fit (λ follow g. tt) 3 no_queue_options) (pure-is no_queue_options Stops) (λ follow g. g.with_part)

queue-is : Sound queue Stops
unfolding queue
queue-is = then-is qname _ Stops qname-is (λ n. map-is (queue_def n) queue_options Stops queue_options-is)

-- ---- services, routes, priorities, tables

names_closed : Sound (ended (commas name) (sign fixed.Close)) Any
names_closed =
    let F : Toks → Type 0 = λ follow. head (fixed_at fixed.Comma) follow ≡ None in
    ended-is (commas name) fixed.Close F (commas-is name Any F name-is (λ follow g. tt) (λ follow g. g)) close_comma

contracts_part-is : Sound contracts_part Stops
unfolding contracts_part
contracts_part-is = alt-is (fixed_at fixed.Open) (λ _. ended (commas name) (sign fixed.Close)) (pure []) Stops (λ _. anywhere (ended (commas name) (sign fixed.Close)) Stops names_closed) (pure-is [] Stops) (λ follow g. g.bracket)

service-is : Sound service Stops
unfolding service phrase fixed_at is_fixed
service-is = then-is name _ Stops name-is (λ n.
    let F : Toks → Type 0 = λ follow. head (fixed_at fixed.Authorization) follow ≡ None in
    bind-is authorization _ F Stops (authorization-is F (λ follow g. g))
    (λ _. also-is (phrase (fixed.On ∷ fixed.Queue ∷ [])) _ Stops (phrase-is (fixed.On ∷ fixed.Queue ∷ [])) (then-is qname _ Stops qname-is (λ q. map-is (service_def n q) contracts_part Stops contracts_part-is)))
    (λ _ follow g. refl))

route_fits : (a b c : Bool) (o : RouteOption) → route_next a b c ≡ Some o → route_take a b c (route_example o) ≡ Some o
unfolding route_take is_fixed
route_fits true b c o e = fit (route_take true b c) route_example route_option.Address o refl e
route_fits false true c o e = fit (route_take false true c) route_example route_option.Service o refl e
route_fits false false true o e = fit (route_take false false true) route_example route_option.Instance o refl e
route_fits false false false o e = none_some o e

route_unbarred : (q : RouteOptions) (o : RouteOption) → route_bars q (route_example o) ≡ None
unfolding route_bars is_fixed
route_unbarred q route_option.Address = refl
route_unbarred q route_option.Service = refl
route_unbarred q route_option.Instance = refl

handle_example : handle_of example_handle ≡ Some zero_handle
unfolding handle_of by_index is_utf8 chars encode
handle_example = refl

address_example : address_of example_address ≡ Some None
unfolding address_of
address_example = refl

transport_apart : transport_of example_address ≡ None
unfolding transport_of
transport_apart = refl

route_value-is : (q : RouteOptions) (o : RouteOption) → Sound (route_value q o) Any
unfolding route_value
route_value-is q route_option.Service = word-is fixed.Equals _ Any (map-is (route_service q) text Any text-is)
route_value-is q route_option.Instance = word-is fixed.Equals _ Any (map-is (route_instance q) (token handle_of example_handle zero_handle) Any (token-is handle_of example_handle zero_handle handle_example))
route_value-is q route_option.Address =
    let r = token address_of example_address None in
    word-is fixed.Equals _ Any (map-is (route_address q) (barred transport_of r Any) Any (barred-is transport_of r Any (token-is address_of example_address None address_example) (λ follow g. transport_apart)))

route_choices-fit : Fits route_choices
route_choices-fit = record {
  fits = λ q o e. route_fits (is_none q.address) (is_none q.service) (is_none q.instance) o e;
  unbarred = route_unbarred;
  values = route_value-is;
  comma = λ follow. tt;
}

route-is : Sound route Stops
unfolding route fixed_at is_fixed
route-is = then-is name _ Stops name-is (λ n.
    let F : Toks → Type 0 = λ follow. head (fixed_at fixed.Authorization) follow ≡ None in
    bind-is authorization _ F Stops (authorization-is F (λ follow g. g))
    (λ _. word-is fixed.With _ Stops (map-is (route_def n) (options route_choices 2 no_route_options) Stops (options_last route_choices route_choices-fit (λ follow g. tt) 2 no_route_options))) (λ _ follow g. refl))

priority_fits : (a b c d : Bool) (o : PriorityOption) → priority_next a b c d ≡ Some o → priority_take a b c d (priority_example o) ≡ Some o
unfolding priority_take is_fixed
priority_fits true b c d o e = fit (priority_take true b c d) priority_example priority_option.Contract o refl e
priority_fits false true c d o e = fit (priority_take false true c d) priority_example priority_option.Local o refl e
priority_fits false false true d o e = fit (priority_take false false true d) priority_example priority_option.Remote o refl e
priority_fits false false false true o e = fit (priority_take false false false true) priority_example priority_option.Level o refl e
priority_fits false false false false o e = none_some o e

any_name_example : any_name_of (example fixed.Any) ≡ Some None
unfolding any_name_of is_fixed
any_name_example = refl

any_text_example : any_text_of (example fixed.Any) ≡ Some None
unfolding any_text_of is_fixed
any_text_example = refl

level_example : level_of (example fixed.Default) ≡ Some (pos 5)
unfolding level_of is_fixed
level_example = refl

priority_value-is : (q : PriorityOptions) (o : PriorityOption) → Sound (priority_value q o) Any
unfolding priority_value
priority_value-is q priority_option.Contract = word-is fixed.Equals _ Any (map-is (priority_contract q) (token any_name_of (example fixed.Any) None) Any (token-is any_name_of (example fixed.Any) None any_name_example))
priority_value-is q priority_option.Local = word-is fixed.Equals _ Any (map-is (priority_local q) (token any_name_of (example fixed.Any) None) Any (token-is any_name_of (example fixed.Any) None any_name_example))
priority_value-is q priority_option.Remote = word-is fixed.Equals _ Any (map-is (priority_remote q) (token any_text_of (example fixed.Any) None) Any (token-is any_text_of (example fixed.Any) None any_text_example))
priority_value-is q priority_option.Level = word-is fixed.Equals _ Any (map-is (priority_level q) (token level_of (example fixed.Default) (pos 5)) Any (token-is level_of (example fixed.Default) (pos 5) level_example))

priority_choices-fit : Fits priority_choices
priority_choices-fit = record {
  fits = λ q o e. priority_fits (is_none q.contract) (is_none q.local) (is_none q.remote) (is_none q.level) o e;
  unbarred = λ q o. refl;
  values = priority_value-is;
  comma = λ follow. tt;
}

priority_closed : Sound (ended (options priority_choices 3 no_priority_options) (sign fixed.Close)) Any
priority_closed = ended-is (options priority_choices 3 no_priority_options) fixed.Close (Over priority_choices) (options-is priority_choices priority_choices-fit 3 no_priority_options) (λ follow. record { comma = close_comma follow; ends = tt })

priority_options-is : Sound priority_options Stops
unfolding priority_options
priority_options-is = alt-is (fixed_at fixed.Set) (λ _. word fixed.Open (ended (options priority_choices 3 no_priority_options) (sign fixed.Close))) (pure no_priority_options) Stops
    (λ _. word-is fixed.Open _ Stops (anywhere (ended (options priority_choices 3 no_priority_options) (sign fixed.Close)) Stops priority_closed)) (pure-is no_priority_options Stops) (λ follow g. g.set_part)

priority-is : Sound priority Stops
unfolding priority
priority-is = word-is fixed.Priority _ Stops (then-is name _ Stops name-is (λ n. also-is (phrase (fixed.For ∷ fixed.Conversation ∷ [])) _ Stops (phrase-is (fixed.For ∷ fixed.Conversation ∷ [])) (map-is (priority_def n) priority_options Stops priority_options-is)))

table-is : Sound table Any
unfolding table
table-is = then-is qname _ Any qname-is (λ n. map-is (table_def n) (phrase table_columns) Any (phrase-is table_columns))

made_by-is : (m : Made) → Sound (made_by m) Stops
made_by-is made.Message = message-is
made_by-is made.Contract = anywhere contract Stops contract-is
made_by-is made.Queue = queue-is
made_by-is made.Service = service-is
made_by-is made.Route = route-is
made_by-is made.Broker = priority-is
made_by-is made.Table = anywhere table Stops table-is

made_example : made_of (example fixed.Table) ≡ Some made.Table
unfolding made_of is_fixed
made_example = refl

pub create_rest-is : Sound create_rest Stops
unfolding create_rest
create_rest-is = then-is (token made_of (example fixed.Table) made.Table) made_by Stops (token-is made_of (example fixed.Table) made.Table made_example) made_by-is

pub alter_rest-is : Sound alter_rest Any
unfolding alter_rest
alter_rest-is = word-is fixed.Queue _ Any (then-is qname _ Any qname-is (λ n. also-is (phrase (fixed.With ∷ fixed.Status ∷ fixed.Equals ∷ [])) _ Any (phrase-is (fixed.With ∷ fixed.Status ∷ fixed.Equals ∷ [])) (map-is (alter_queue n) on_off Any on_off-is)))
