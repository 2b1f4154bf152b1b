-- The laws of statements on dialogs and messages.
use Rattle.std.proofs.Common.{◌≡◌, ℕ, Bool, true, false, not, List, [], ◌∷◌, ◌++◌, Some, None, refl}
use Rattle.sb_grammar.specs.declared.tree.Expr.{Expr}
use Rattle.sb_grammar.specs.declared.tree.Column.TheVariants as column_is
use Rattle.sb_grammar.specs.declared.tree.Columns.TheVariants as columns_are
use Rattle.sb_grammar.specs.declared.tree.Filter.TheVariants as filters
use Rattle.sb_grammar.specs.declared.tree.Waited.TheVariants as waited_is
use Rattle.sb_grammar.specs.declared.tree.Ending.TheVariants as endings
use Rattle.sb_grammar.specs.declared.tree.Statement.TheVariants as s
use Rattle.sb_grammar.specs.declared.choice.DialogWord.{DialogWord}
use Rattle.sb_grammar.specs.declared.choice.DialogWord.TheVariants as dialog_word
use Rattle.sb_grammar.specs.declared.choice.DialogOptions.{DialogOptions}
use Rattle.sb_grammar.specs.declared.word.Fixed.TheVariants as fixed
use Rattle.sb_grammar.specs.Words.{is_fixed, fixed_at, example}
use Rattle.sb_grammar.specs.Rules.{Rule, Toks, token, ended, alt, bind, map_rule, pure, barred, push_step, pushed, most, Any, Rests, head}
use Rattle.sb_grammar.specs.Values.{sign, word, phrase, name, qname, variable, variable_of, kind, broker}
use Rattle.sb_grammar.specs.Exprs.{NoSign, sign_of}
use Rattle.sb_grammar.specs.Options.{options}
use Rattle.sb_grammar.specs.Definitions.{commas}
use Rattle.sb_grammar.specs.Stops.{Stops, into_of, work_of, first_barred}
use Rattle.sb_grammar.specs.Dialogs.{dialog_take, dialog_next, dialog_example, with_conversation, with_group, with_lifetime, with_encryption, encryption_bars, dialog_value, dialog_choices, no_dialog_options, dialog_options, contract_part, instance_part, begin_dialog, dialog_end, conversation_word, dialog_rest, timer, timer_rest, kind_part, body_part, send_rest, move_rest, ending_with, ending_part, end_tail, end_rest, top_part, column_of, cast_body, column, assigned, assignment_rest, assignment, first_assigned, assignments, NoComma, columns, filter_of, filtered, filter_by, filter_part, received, receive_rest, group_of_queue, get_rest, waited_of, waited_by, timeout_part, waitfor, waitfor_rest}
use Rattle.sb_grammar.proofs.Sounds.{Sound, under, anywhere, also_open, pure-is, token-is, sign-is, map-is, also-is, word-is, phrase-is, ended-is, bind-is, then-is, optional-is, alt-is, barred-is, chain-is, commas-is, skipped-is}
use Rattle.sb_grammar.proofs.ValueLaws.{name-is, qname-is, variable-is, kind-is, broker-is}
use Rattle.sb_grammar.proofs.OptionLaws.{Fits}
use Rattle.sb_grammar.proofs.DefinitionLaws.{fit, none_some, options_end}

-- where statements may end before a closing bracket
pub stops_close : (follow : Toks) → Stops (example fixed.Close ∷ follow)
unfolding sign_of fixed_at is_fixed work_of into_of first_barred
stops_close follow = record {
  sign = refl;
  bracket = refl;
  message = refl;
  otherwise = refl;
  semicolon = refl;
  conversation = refl;
  comma = refl;
  with_part = refl;
  authorization = refl;
  validation = refl;
  set_part = refl;
  on_part = refl;
  where_part = refl;
  equals = refl;
  work = refl;
  into_part = refl;
  barred = refl;
}

-- ---- BEGIN DIALOG

dialog_fits : (a b c : Bool) (o : DialogWord) → dialog_next a b c ≡ Some o → dialog_take a b c (dialog_example o) ≡ Some o
unfolding dialog_take is_fixed
dialog_fits true true true o e = fit (dialog_take true true true) dialog_example dialog_word.Encryption o refl e
dialog_fits true false true o e = fit (dialog_take true false true) dialog_example dialog_word.Encryption o refl e
dialog_fits false true true o e = fit (dialog_take false true true) dialog_example dialog_word.Encryption o refl e
dialog_fits false false true o e = fit (dialog_take false false true) dialog_example dialog_word.Encryption o refl e
dialog_fits true true false o e = fit (dialog_take true true false) dialog_example dialog_word.Lifetime o refl e
dialog_fits false true false o e = fit (dialog_take false true false) dialog_example dialog_word.Lifetime o refl e
dialog_fits true false false o e = fit (dialog_take true false false) dialog_example dialog_word.RelatedConversation o refl e
dialog_fits false false false o e = none_some o e

off_apart : encryption_bars (example fixed.Off) ≡ None
unfolding encryption_bars is_fixed
off_apart = refl

dialog_value-is : (x : Rule Expr) → Sound x NoSign → (q : DialogOptions) (o : DialogWord) → Sound (dialog_value x q o) NoSign
unfolding dialog_value
dialog_value-is x X q dialog_word.RelatedConversation = word-is fixed.Equals _ NoSign (map-is (with_conversation q) x NoSign X)
dialog_value-is x X q dialog_word.RelatedGroup = word-is fixed.Equals _ NoSign (map-is (with_group q) x NoSign X)
dialog_value-is x X q dialog_word.Lifetime = word-is fixed.Equals _ NoSign (map-is (with_lifetime q) x NoSign X)
dialog_value-is x X q dialog_word.Encryption =
    let r = barred encryption_bars (sign fixed.Off) Any in
    word-is fixed.Equals _ NoSign (map-is (with_encryption q) r NoSign (anywhere r NoSign (barred-is encryption_bars (sign fixed.Off) Any (sign-is fixed.Off) (λ follow g. off_apart))))

comma_sign : (follow : Toks) → NoSign (example fixed.Comma ∷ follow)
unfolding sign_of is_fixed
comma_sign follow = refl

dialog_choices-fit : (x : Rule Expr) → Sound x NoSign → Fits (dialog_choices x)
dialog_choices-fit x X = record {
  fits = λ q o e. dialog_fits (not q.is_related) (not q.has_lifetime) (not q.has_encryption) o e;
  unbarred = λ q o. refl;
  values = dialog_value-is x X;
  comma = comma_sign;
}

dialog_options-is : (x : Rule Expr) → Sound x NoSign → Sound (dialog_options x) Stops
unfolding dialog_options
dialog_options-is x X = alt-is (fixed_at fixed.With) (λ _. options (dialog_choices x) 2 no_dialog_options) (pure no_dialog_options) Stops
    (λ _. options_end (dialog_choices x) (dialog_choices-fit x X) (λ follow g. g.sign) 2 no_dialog_options) (pure-is no_dialog_options Stops) (λ follow g. g.with_part)

contract_part-is : Sound contract_part Stops
unfolding contract_part
contract_part-is = optional-is (fixed_at fixed.On) (λ _. word fixed.Contract name) Stops (λ _. word-is fixed.Contract name Stops (anywhere name Stops name-is)) (λ follow g. g.on_part)

instance_part-is : Sound instance_part Stops
unfolding instance_part
instance_part-is = optional-is (fixed_at fixed.Comma) (λ _. broker) Stops (λ _. anywhere broker Stops broker-is) (λ follow g. g.comma)

dialog_end-is : (x : Rule Expr) → Sound x NoSign → (v f : List ℕ) (to : Expr) → Sound (dialog_end x v f to) Stops
unfolding dialog_end dialog_options contract_part
dialog_end-is x X v f to = bind-is instance_part _ Stops Stops instance_part-is
    (λ i. bind-is contract_part _ Stops Stops contract_part-is (λ c. map-is (begin_dialog v f to i c) (dialog_options x) Stops (dialog_options-is x X)) (λ c follow g. g)) (λ i follow g. g)

dialog_end-begins : (x : Rule Expr) (v f : List ℕ) (to : Expr) (follow : Toks) → Stops follow → NoSign ((dialog_end x v f to).min ++ follow)
unfolding dialog_end dialog_options contract_part instance_part
dialog_end-begins x v f to follow g = g.sign

conversation_word-is : (F : Toks → Type 0) → ((follow : Toks) → F follow → head (fixed_at fixed.Conversation) follow ≡ None) → Sound conversation_word F
unfolding conversation_word
conversation_word-is F apart = skipped-is (fixed_at fixed.Conversation) F apart

pub dialog_rest-is : (x : Rule Expr) → Sound x NoSign → Sound (dialog_rest x) Stops
unfolding dialog_rest conversation_word fixed_at is_fixed
dialog_rest-is x X =
    also_open conversation_word _ (λ follow. head (fixed_at fixed.Conversation) follow ≡ None) Stops (conversation_word-is (λ follow. head (fixed_at fixed.Conversation) follow ≡ None) (λ follow g. g))
    (then-is variable _ Stops variable-is (λ v. also-is (phrase (fixed.From ∷ fixed.Service ∷ [])) _ Stops (phrase-is (fixed.From ∷ fixed.Service ∷ []))
    (then-is name _ Stops name-is (λ f. also-is (phrase (fixed.To ∷ fixed.Service ∷ [])) _ Stops (phrase-is (fixed.To ∷ fixed.Service ∷ []))
    (bind-is x (dialog_end x v f) NoSign Stops X (dialog_end-is x X v f) (λ to follow g. dialog_end-begins x v f to follow g))))))
    (λ follow. refl)

close_sign : (follow : Toks) → NoSign (example fixed.Close ∷ follow)
unfolding sign_of is_fixed
close_sign follow = refl

pub timer_rest-is : (x : Rule Expr) → Sound x NoSign → Sound (timer_rest x) Stops
unfolding timer_rest phrase sign_of is_fixed
timer_rest-is x X = also-is (phrase (fixed.Timer ∷ fixed.Open ∷ [])) _ Stops (phrase-is (fixed.Timer ∷ fixed.Open ∷ []))
    (bind-is x _ NoSign Stops X (λ c. also-is (phrase (fixed.Close ∷ fixed.Timeout ∷ fixed.Equals ∷ [])) _ Stops (phrase-is (fixed.Close ∷ fixed.Timeout ∷ fixed.Equals ∷ [])) (map-is (timer c) x Stops (under x NoSign Stops X (λ follow g. g.sign)))) (λ c follow g. refl))

-- ---- SEND, MOVE, END CONVERSATION

kind_part-is : Sound kind_part Stops
unfolding kind_part
kind_part-is = optional-is (fixed_at fixed.Message) (λ _. word fixed.Type name) Stops (λ _. word-is fixed.Type name Stops (anywhere name Stops name-is)) (λ follow g. g.message)

body_part-is : (x : Rule Expr) → Sound x NoSign → Sound (body_part x) Stops
unfolding body_part
body_part-is x X = optional-is (fixed_at fixed.Open) (λ _. ended x (sign fixed.Close)) Stops (λ _. anywhere (ended x (sign fixed.Close)) Stops (ended-is x fixed.Close NoSign X close_sign)) (λ follow g. g.bracket)

pub send_rest-is : (x : Rule Expr) → Sound x NoSign → Sound (send_rest x) Stops
unfolding send_rest kind_part body_part
send_rest-is x X = also-is (phrase (fixed.On ∷ fixed.Conversation ∷ [])) _ Stops (phrase-is (fixed.On ∷ fixed.Conversation ∷ []))
    (bind-is x _ NoSign Stops X (λ c. bind-is kind_part _ Stops Stops kind_part-is (λ k. map-is (s.Send c k) (body_part x) Stops (body_part-is x X)) (λ k follow g. g)) (λ c follow g. g.sign))

pub move_rest-is : (x : Rule Expr) → Sound x NoSign → Sound (move_rest x) Stops
unfolding move_rest sign_of is_fixed
move_rest-is x X = word-is fixed.Conversation _ Stops (bind-is x _ NoSign Stops X (λ c. word-is fixed.To _ Stops (map-is (s.Move c) x Stops (under x NoSign Stops X (λ follow g. g.sign)))) (λ c follow g. refl))

ending_with-is : (x : Rule Expr) → Sound x NoSign → Sound (ending_with x) NoSign
unfolding ending_with phrase sign_of fixed_at is_fixed
ending_with-is x X = alt-is (fixed_at fixed.Cleanup) (λ _. pure endings.Cleanup) _ NoSign (λ _. pure-is endings.Cleanup NoSign)
    (also-is (phrase (fixed.Error ∷ fixed.Equals ∷ [])) _ NoSign (phrase-is (fixed.Error ∷ fixed.Equals ∷ []))
    (bind-is x _ NoSign NoSign X (λ code. also-is (phrase (fixed.Description ∷ fixed.Equals ∷ [])) _ NoSign (phrase-is (fixed.Description ∷ fixed.Equals ∷ [])) (map-is (endings.Error code) x NoSign X)) (λ code follow g. refl)))
    (λ follow g. refl)

ending_part-is : (x : Rule Expr) → Sound x NoSign → Sound (ending_part x) Stops
unfolding ending_part
ending_part-is x X = alt-is (fixed_at fixed.With) (λ _. ending_with x) (pure endings.Plain) Stops (λ _. under (ending_with x) NoSign Stops (ending_with-is x X) (λ follow g. g.sign)) (pure-is endings.Plain Stops) (λ follow g. g.with_part)

pub end_tail-is : (x : Rule Expr) → Sound x NoSign → Sound (end_tail x) Stops
unfolding end_tail ending_part
end_tail-is x X = bind-is x _ NoSign Stops X (λ c. map-is (s.EndConversation c) (ending_part x) Stops (ending_part-is x X)) (λ c follow g. g.sign)

pub end_rest-is : (x : Rule Expr) → Sound x NoSign → Sound (end_rest x) Stops
unfolding end_rest
end_rest-is x X = word-is fixed.Conversation (end_tail x) Stops (end_tail-is x X)

-- ---- RECEIVE, GET CONVERSATION GROUP, WAITFOR

column_example : column_of (example fixed.MessageBody) ≡ Some column_is.Body
unfolding column_of is_fixed
column_example = refl

cast_apart : fixed_at fixed.Cast (example fixed.MessageBody) ≡ None
unfolding fixed_at is_fixed
cast_apart = refl

column-is : Sound column Any
unfolding column
column-is = alt-is (fixed_at fixed.Cast) _ (token column_of (example fixed.MessageBody) column_is.Body) Any
    (λ _. also-is (phrase (fixed.Open ∷ fixed.MessageBody ∷ fixed.As ∷ [])) _ Any (phrase-is (fixed.Open ∷ fixed.MessageBody ∷ fixed.As ∷ [])) (ended-is (map_rule cast_body kind) fixed.Close Any (map-is cast_body kind Any kind-is) (λ follow. tt)))
    (token-is column_of (example fixed.MessageBody) column_is.Body column_example) (λ follow g. cast_apart)

assignment_rest-is : (v : List ℕ) → Sound (assignment_rest v) Any
unfolding assignment_rest
assignment_rest-is v = word-is fixed.Equals _ Any (map-is (assigned v) column Any column-is)

assignment-is : Sound assignment Any
unfolding assignment
assignment-is = then-is variable assignment_rest Any variable-is assignment_rest-is

assignments-is : (v : List ℕ) → Sound (assignments v) NoComma
unfolding assignments
assignments-is v =
    let F : Toks → Type 0 = Rests (fixed_at fixed.Comma) (push_step assignment) in
    let step : (b : Unit {0}) (all : _) → Sound (push_step assignment b all) Any = λ b all. map-is (pushed all) assignment Any assignment-is in
    let C = chain-is (map_rule first_assigned (assignment_rest v)) most (fixed_at fixed.Comma) (push_step assignment) F (anywhere (map_rule first_assigned (assignment_rest v)) F (map-is first_assigned (assignment_rest v) Any (assignment_rest-is v)))
    (λ b all. anywhere (push_step assignment b all) F (step b all)) (λ follow g. g.0) in
    record { lawful = C.lawful; fine = λ follow g. (g, λ b all. (step b all).fine follow tt) }

star_apart : fixed_at fixed.Star (example fixed.MessageBody) ≡ None
unfolding fixed_at is_fixed
star_apart = refl

variable_apart : variable_of (example fixed.MessageBody) ≡ None
unfolding variable_of
variable_apart = refl

columns-is : Sound columns NoComma
unfolding columns commas column
columns-is = alt-is (fixed_at fixed.Star) (λ _. pure columns_are.All) _ NoComma (λ _. pure-is columns_are.All NoComma)
    (alt-is variable_of (λ v. map_rule columns_are.Assigned (assignments v)) (map_rule columns_are.Named (commas column)) NoComma
    (λ v. map-is columns_are.Assigned (assignments v) NoComma (assignments-is v)) (map-is columns_are.Named (commas column) NoComma (commas-is column Any NoComma column-is (λ follow g. tt) (λ follow g. g))) (λ follow g. variable_apart))
    (λ follow g. star_apart)

filter_example : filter_of (example fixed.ConversationHandle) ≡ Some false
unfolding filter_of is_fixed
filter_example = refl

filter_by-is : (x : Rule Expr) → Sound x NoSign → (b : Bool) → Sound (filter_by x b) NoSign
filter_by-is x X b = word-is fixed.Equals _ NoSign (map-is (filtered b) x NoSign X)

filter_part-is : (x : Rule Expr) → Sound x NoSign → Sound (filter_part x) Stops
unfolding filter_part
filter_part-is x X =
    let by = bind (token filter_of (example fixed.ConversationHandle) false) (filter_by x) NoSign in
    barred-is into_of (alt (fixed_at fixed.Where) (λ _. by) (pure filters.All) Stops) Stops
    (alt-is (fixed_at fixed.Where) (λ _. by) (pure filters.All) Stops
    (λ _. under by NoSign Stops (then-is (token filter_of (example fixed.ConversationHandle) false) (filter_by x) NoSign (token-is filter_of (example fixed.ConversationHandle) false filter_example) (filter_by-is x X)) (λ follow g. g.sign))
    (pure-is filters.All Stops) (λ follow g. g.where_part))
    (λ follow g. g.into_part)

top_part-is : (x : Rule Expr) → Sound x NoSign → (F : Toks → Type 0) → ((follow : Toks) → F follow → head (fixed_at fixed.Top) follow ≡ None) → Sound (top_part x) F
unfolding top_part
top_part-is x X F apart = optional-is (fixed_at fixed.Top) (λ _. word fixed.Open (ended x (sign fixed.Close))) F (λ _. word-is fixed.Open _ F (anywhere (ended x (sign fixed.Close)) F (ended-is x fixed.Close NoSign X close_sign))) apart

pub receive_rest-is : (x : Rule Expr) → Sound x NoSign → Sound (receive_rest x) Stops
unfolding receive_rest columns commas column fixed_at is_fixed
receive_rest-is x X =
    let F : Toks → Type 0 = λ follow. head (fixed_at fixed.Top) follow ≡ None in
    bind-is (top_part x) _ F Stops (top_part-is x X F (λ follow g. g))
    (λ t. bind-is columns _ NoComma Stops columns-is (λ c. word-is fixed.From _ Stops (then-is qname _ Stops qname-is (λ q. map-is (received t c q) (filter_part x) Stops (filter_part-is x X)))) (λ c follow g. refl))
    (λ t follow g. refl)

pub get_rest-is : Sound get_rest Any
unfolding get_rest
get_rest-is = also-is (phrase (fixed.Conversation ∷ fixed.Group ∷ [])) _ Any (phrase-is (fixed.Conversation ∷ fixed.Group ∷ [])) (then-is variable _ Any variable-is (λ v. word-is fixed.From _ Any (map-is (group_of_queue v) qname Any qname-is)))

waited_example : waited_of (example fixed.Get) ≡ Some true
unfolding waited_of is_fixed
waited_example = refl

waited_by-is : (x : Rule Expr) → Sound x NoSign → (b : Bool) → Sound (waited_by x b) Stops
waited_by-is x X false = map-is waited_is.Receive (receive_rest x) Stops (receive_rest-is x X)
waited_by-is x X true = map-is waited_is.GetGroup get_rest Stops (anywhere get_rest Stops get_rest-is)

timeout_part-is : (x : Rule Expr) → Sound x NoSign → Sound (timeout_part x) Stops
unfolding timeout_part
timeout_part-is x X = optional-is (fixed_at fixed.Comma) (λ _. word fixed.Timeout x) Stops (λ _. word-is fixed.Timeout x Stops (under x NoSign Stops X (λ follow g. g.sign))) (λ follow g. g.comma)

pub waitfor_rest-is : (x : Rule Expr) → Sound x NoSign → Sound (waitfor_rest x) Stops
unfolding waitfor_rest
waitfor_rest-is x X =
    let w = bind (token waited_of (example fixed.Get) true) (waited_by x) Stops in
    word-is fixed.Open _ Stops (bind-is w _ Stops Stops (then-is (token waited_of (example fixed.Get) true) (waited_by x) Stops (token-is waited_of (example fixed.Get) true waited_example) (waited_by-is x X))
    (λ v. word-is fixed.Close _ Stops (map-is (waitfor v) (timeout_part x) Stops (timeout_part-is x X))) (λ v follow g. stops_close _))
