-- Statements that none of the first kinds are.
use Rattle.std.proofs.Common.{◌≡◌, ℕ, Bool, false, List, Option, Some, None, Ok, refl, sym, ap, ◌∙◌}
use Rattle.sb_log.specs.declared.definitions.Ddl.{Ddl}
use Rattle.sb_model.specs.Sides.{Bytes}
use Rattle.sb_log.specs.declared.requests.Reply.{Reply}
use Rattle.sb_log.specs.declared.requests.Request.TheVariants as request
use Rattle.sb_grammar.specs.declared.tree.BrokerInstance.{BrokerInstance}
use Rattle.sb_grammar.specs.declared.tree.Change.{Change}
use Rattle.sb_grammar.specs.declared.tree.Condition.{Condition}
use Rattle.sb_grammar.specs.declared.tree.Declaration.{Declaration}
use Rattle.sb_grammar.specs.declared.tree.DialogOption.{DialogOption}
use Rattle.sb_grammar.specs.declared.tree.Ending.{Ending}
use Rattle.sb_grammar.specs.declared.tree.Expr.{Expr}
use Rattle.sb_grammar.specs.declared.tree.GetGroup.{GetGroup}
use Rattle.sb_grammar.specs.declared.tree.Receive.{Receive}
use Rattle.sb_grammar.specs.declared.tree.Selected.{Selected}
use Rattle.sb_grammar.specs.declared.tree.Statement.{Statement, out-Statement, roll-Statement, roll-out-Statement, out-roll-Statement}
use Rattle.sb_grammar.specs.declared.tree.Statement.TheOpen.{Statement-F}
use Rattle.sb_grammar.specs.declared.tree.Statement.TheVariants as statement
use Rattle.sb_grammar.specs.declared.tree.Waited.{Waited}
use Rattle.sb_proc.specs.Requests.{Place, asked, asked_at, asked_of_data, asked_of_dialogs}
use Rattle.sb_proc.specs.declared.variables.Variable.{Variable}
use Rattle.sb_proc.specs.Replies.{variables_after_at}
use Rattle.sb_proc.specs.Scopes.{Scope}
use Rattle.sb_proc.specs.Steps.{computed, computed_at}

-- a statement, from its layer
rolled : (x : Statement) (y : Statement-F Statement) → out-Statement x ≡ y → x ≡ roll-Statement y
rolled x y e = sym (roll-out-Statement x) ∙ ap roll-Statement e

-- a definition, by its copy
pub define_asked : (p : Place) (s : Scope) (x : Statement) (d copy : Ddl) → x ≡ statement.Define d → copy ≡ d → asked p s x ≡ Ok (Some (request.Define copy))
define_asked p s x d copy is same =
    ap (asked_at p s) (ap out-Statement (is ∙ sym (statement.rolls-Define d)) ∙ out-roll-Statement (Statement-F.Define d))
    ∙ ap (λ (e : Ddl). Ok (Some (request.Define e))) (sym same)

layer_of_data : (p : Place) (s : Scope) (y : Statement-F Statement) →
    ((d : Ddl) → y ≡ Statement-F.Define d → ⊥) →
    ((name : Bytes) (at : ℕ) (body : List Statement) → y ≡ Statement-F.CreateProcedure name at body → ⊥) →
    ((queue : Bytes) (on : Bool) → y ≡ Statement-F.AlterQueue queue on → ⊥) →
    (y ≡ Statement-F.BeginTransaction → ⊥) → (y ≡ Statement-F.Commit → ⊥) → (y ≡ Statement-F.Rollback → ⊥) →
    asked_at p s y ≡ asked_of_data p s y
layer_of_data p s (Statement-F.Define d) a b c e f g = absurd (a d refl)
layer_of_data p s (Statement-F.CreateProcedure name at body) a b c e f g = absurd (b name at body refl)
layer_of_data p s (Statement-F.AlterQueue queue on) a b c e f g = absurd (c queue on refl)
layer_of_data p s Statement-F.BeginTransaction a b c e f g = absurd (e refl)
layer_of_data p s Statement-F.Commit a b c e f g = absurd (f refl)
layer_of_data p s Statement-F.Rollback a b c e f g = absurd (g refl)
layer_of_data p s _ a b c e f g = refl

pub else_of_data : (p : Place) (s : Scope) (x : Statement) →
    ((d : Ddl) → x ≡ statement.Define d → ⊥) →
    ((name : Bytes) (at : ℕ) (body : List Statement) → x ≡ statement.CreateProcedure name at body → ⊥) →
    ((queue : Bytes) (on : Bool) → x ≡ statement.AlterQueue queue on → ⊥) →
    (x ≡ statement.BeginTransaction → ⊥) → (x ≡ statement.Commit → ⊥) → (x ≡ statement.Rollback → ⊥) →
    asked_of_data p s (out-Statement x) ≡ asked p s x
else_of_data p s x a b c e f g =
    sym (layer_of_data p s (out-Statement x)
    (λ d is. a d (rolled x (Statement-F.Define d) is ∙ statement.rolls-Define d))
    (λ name at body is. b name at body (rolled x (Statement-F.CreateProcedure name at body) is ∙ statement.rolls-CreateProcedure name at body))
    (λ queue on is. c queue on (rolled x (Statement-F.AlterQueue queue on) is ∙ statement.rolls-AlterQueue queue on))
    (λ is. e (rolled x Statement-F.BeginTransaction is ∙ statement.rolls-BeginTransaction))
    (λ is. f (rolled x Statement-F.Commit is ∙ statement.rolls-Commit))
    (λ is. g (rolled x Statement-F.Rollback is ∙ statement.rolls-Rollback)))

layer_of_dialogs : (p : Place) (s : Scope) (y : Statement-F Statement) →
    ((r : Receive) → y ≡ Statement-F.Receive r → ⊥) → ((g : GetGroup) → y ≡ Statement-F.GetGroup g → ⊥) →
    ((w : Waited) (timeout : Option Expr) → y ≡ Statement-F.Waitfor w timeout → ⊥) →
    ((table : Bytes) (id n body : Expr) → y ≡ Statement-F.Insert table id n body → ⊥) →
    ((table : Bytes) (all : List Change) (id : Expr) → y ≡ Statement-F.Update table all id → ⊥) →
    ((table : Bytes) (id : Expr) → y ≡ Statement-F.Delete table id → ⊥) →
    ((all : List Selected) (table : Bytes) (id : Expr) → y ≡ Statement-F.Select all table id → ⊥) →
    asked_of_data p s y ≡ asked_of_dialogs p s y
layer_of_dialogs p s (Statement-F.Receive r) a b c e f g h = absurd (a r refl)
layer_of_dialogs p s (Statement-F.GetGroup get) a b c e f g h = absurd (b get refl)
layer_of_dialogs p s (Statement-F.Waitfor w timeout) a b c e f g h = absurd (c w timeout refl)
layer_of_dialogs p s (Statement-F.Insert table id n body) a b c e f g h = absurd (e table id n body refl)
layer_of_dialogs p s (Statement-F.Update table all id) a b c e f g h = absurd (f table all id refl)
layer_of_dialogs p s (Statement-F.Delete table id) a b c e f g h = absurd (g table id refl)
layer_of_dialogs p s (Statement-F.Select all table id) a b c e f g h = absurd (h all table id refl)
layer_of_dialogs p s _ a b c e f g h = refl

pub else_of_dialogs : (p : Place) (s : Scope) (x : Statement) →
    ((r : Receive) → x ≡ statement.Receive r → ⊥) → ((g : GetGroup) → x ≡ statement.GetGroup g → ⊥) →
    ((w : Waited) (timeout : Option Expr) → x ≡ statement.Waitfor w timeout → ⊥) →
    ((table : Bytes) (id n body : Expr) → x ≡ statement.Insert table id n body → ⊥) →
    ((table : Bytes) (all : List Change) (id : Expr) → x ≡ statement.Update table all id → ⊥) →
    ((table : Bytes) (id : Expr) → x ≡ statement.Delete table id → ⊥) →
    ((all : List Selected) (table : Bytes) (id : Expr) → x ≡ statement.Select all table id → ⊥) →
    asked_of_dialogs p s (out-Statement x) ≡ asked_of_data p s (out-Statement x)
else_of_dialogs p s x a b c e f g h =
    sym (layer_of_dialogs p s (out-Statement x)
    (λ r is. a r (rolled x (Statement-F.Receive r) is ∙ statement.rolls-Receive r))
    (λ get is. b get (rolled x (Statement-F.GetGroup get) is ∙ statement.rolls-GetGroup get))
    (λ w timeout is. c w timeout (rolled x (Statement-F.Waitfor w timeout) is ∙ statement.rolls-Waitfor w timeout))
    (λ table id n body is. e table id n body (rolled x (Statement-F.Insert table id n body) is ∙ statement.rolls-Insert table id n body))
    (λ table all id is. f table all id (rolled x (Statement-F.Update table all id) is ∙ statement.rolls-Update table all id))
    (λ table id is. g table id (rolled x (Statement-F.Delete table id) is ∙ statement.rolls-Delete table id))
    (λ all table id is. h all table id (rolled x (Statement-F.Select all table id) is ∙ statement.rolls-Select all table id)))

layer_of_none : (p : Place) (s : Scope) (y : Statement-F Statement) →
    ((variable from : Bytes) (to : Expr) (instance : Option BrokerInstance) (contract : Option Bytes) (options : List DialogOption) →
    y ≡ Statement-F.BeginDialog variable from to instance contract options → ⊥) →
    ((conversation : Expr) (kind : Option Bytes) (body : Option Expr) → y ≡ Statement-F.Send conversation kind body → ⊥) →
    ((conversation group : Expr) → y ≡ Statement-F.Move conversation group → ⊥) →
    ((conversation : Expr) (ending : Ending) → y ≡ Statement-F.EndConversation conversation ending → ⊥) →
    ((conversation timeout : Expr) → y ≡ Statement-F.Timer conversation timeout → ⊥) →
    asked_of_dialogs p s y ≡ Ok None
layer_of_none p s (Statement-F.BeginDialog variable from to instance contract options) a b c e f = absurd (a variable from to instance contract options refl)
layer_of_none p s (Statement-F.Send conversation kind body) a b c e f = absurd (b conversation kind body refl)
layer_of_none p s (Statement-F.Move conversation group) a b c e f = absurd (c conversation group refl)
layer_of_none p s (Statement-F.EndConversation conversation ending) a b c e f = absurd (e conversation ending refl)
layer_of_none p s (Statement-F.Timer conversation timeout) a b c e f = absurd (f conversation timeout refl)
layer_of_none p s _ a b c e f = refl

pub else_of_none : (p : Place) (s : Scope) (x : Statement) →
    ((variable from : Bytes) (to : Expr) (instance : Option BrokerInstance) (contract : Option Bytes) (options : List DialogOption) →
    x ≡ statement.BeginDialog variable from to instance contract options → ⊥) →
    ((conversation : Expr) (kind : Option Bytes) (body : Option Expr) → x ≡ statement.Send conversation kind body → ⊥) →
    ((conversation group : Expr) → x ≡ statement.Move conversation group → ⊥) →
    ((conversation : Expr) (ending : Ending) → x ≡ statement.EndConversation conversation ending → ⊥) →
    ((conversation timeout : Expr) → x ≡ statement.Timer conversation timeout → ⊥) →
    asked_of_dialogs p s (out-Statement x) ≡ Ok None
else_of_none p s x a b c e f =
    layer_of_none p s (out-Statement x)
    (λ variable from to instance contract options is. a variable from to instance contract options
    (rolled x (Statement-F.BeginDialog variable from to instance contract options) is ∙ statement.rolls-BeginDialog variable from to instance contract options))
    (λ conversation kind body is. b conversation kind body (rolled x (Statement-F.Send conversation kind body) is ∙ statement.rolls-Send conversation kind body))
    (λ conversation group is. c conversation group (rolled x (Statement-F.Move conversation group) is ∙ statement.rolls-Move conversation group))
    (λ conversation ending is. e conversation ending (rolled x (Statement-F.EndConversation conversation ending) is ∙ statement.rolls-EndConversation conversation ending))
    (λ conversation timeout is. f conversation timeout (rolled x (Statement-F.Timer conversation timeout) is ∙ statement.rolls-Timer conversation timeout))

-- ---- what stores and tests nothing

layer_of_stored : (s : Scope) (y : Statement-F Statement) → ((all : List Declaration) → y ≡ Statement-F.Declare all → ⊥) →
    ((name : Bytes) (value : Expr) → y ≡ Statement-F.Set name value → ⊥) →
    ((condition : Condition) (taken : Statement) (passed : Option Statement) → y ≡ Statement-F.If condition taken passed → ⊥) →
    computed_at s y ≡ Ok (s, false)
layer_of_stored s (Statement-F.Declare all) a b c = absurd (a all refl)
layer_of_stored s (Statement-F.Set name value) a b c = absurd (b name value refl)
layer_of_stored s (Statement-F.If condition taken passed) a b c = absurd (c condition taken passed refl)
layer_of_stored s _ a b c = refl

pub else_of_stored : (s : Scope) (x : Statement) → ((all : List Declaration) → x ≡ statement.Declare all → ⊥) →
    ((name : Bytes) (value : Expr) → x ≡ statement.Set name value → ⊥) →
    ((condition : Condition) (taken : Statement) (passed : Option Statement) → x ≡ statement.If condition taken passed → ⊥) →
    computed s x ≡ Ok (s, false)
else_of_stored s x a b c =
    layer_of_stored s (out-Statement x)
    (λ all is. a all (rolled x (Statement-F.Declare all) is ∙ statement.rolls-Declare all))
    (λ name value is. b name value (rolled x (Statement-F.Set name value) is ∙ statement.rolls-Set name value))
    (λ condition taken passed is. c condition taken passed (rolled x (Statement-F.If condition taken passed) is ∙ statement.rolls-If condition taken passed))

-- ---- what takes nothing from a reply

layer_of_untold : (vs : List Variable) (answer : Reply) (y : Statement-F Statement) →
    ((r : Receive) → y ≡ Statement-F.Receive r → ⊥) → ((g : GetGroup) → y ≡ Statement-F.GetGroup g → ⊥) →
    ((w : Waited) (timeout : Option Expr) → y ≡ Statement-F.Waitfor w timeout → ⊥) →
    ((variable from : Bytes) (to : Expr) (instance : Option BrokerInstance) (contract : Option Bytes) (options : List DialogOption) →
    y ≡ Statement-F.BeginDialog variable from to instance contract options → ⊥) →
    ((all : List Selected) (table : Bytes) (id : Expr) → y ≡ Statement-F.Select all table id → ⊥) →
    vs ≡ variables_after_at vs y answer
layer_of_untold vs answer (Statement-F.Receive r) a b c e f = absurd (a r refl)
layer_of_untold vs answer (Statement-F.GetGroup g) a b c e f = absurd (b g refl)
layer_of_untold vs answer (Statement-F.Waitfor w timeout) a b c e f = absurd (c w timeout refl)
layer_of_untold vs answer (Statement-F.BeginDialog variable from to instance contract options) a b c e f = absurd (e variable from to instance contract options refl)
layer_of_untold vs answer (Statement-F.Select all table id) a b c e f = absurd (f all table id refl)
layer_of_untold vs answer _ a b c e f = refl

pub else_of_untold : (vs : List Variable) (answer : Reply) (x : Statement) →
    ((r : Receive) → x ≡ statement.Receive r → ⊥) → ((g : GetGroup) → x ≡ statement.GetGroup g → ⊥) →
    ((w : Waited) (timeout : Option Expr) → x ≡ statement.Waitfor w timeout → ⊥) →
    ((variable from : Bytes) (to : Expr) (instance : Option BrokerInstance) (contract : Option Bytes) (options : List DialogOption) →
    x ≡ statement.BeginDialog variable from to instance contract options → ⊥) →
    ((all : List Selected) (table : Bytes) (id : Expr) → x ≡ statement.Select all table id → ⊥) →
    vs ≡ variables_after_at vs (out-Statement x) answer
else_of_untold vs answer x a b c e f =
    layer_of_untold vs answer (out-Statement x)
    (λ r is. a r (rolled x (Statement-F.Receive r) is ∙ statement.rolls-Receive r))
    (λ g is. b g (rolled x (Statement-F.GetGroup g) is ∙ statement.rolls-GetGroup g))
    (λ w timeout is. c w timeout (rolled x (Statement-F.Waitfor w timeout) is ∙ statement.rolls-Waitfor w timeout))
    (λ variable from to instance contract options is. e variable from to instance contract options
    (rolled x (Statement-F.BeginDialog variable from to instance contract options) is ∙ statement.rolls-BeginDialog variable from to instance contract options))
    (λ all table id is. f all table id (rolled x (Statement-F.Select all table id) is ∙ statement.rolls-Select all table id))
