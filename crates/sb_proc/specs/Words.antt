-- The words by which a transcript names a statement.
use Rattle.std.specs.Prelude.{ℕ, List, codes}
use Rattle.sb_log.specs.declared.definitions.Ddl.{Ddl}
use Rattle.sb_log.specs.declared.definitions.Ddl.TheVariants as ddl
use Rattle.sb_grammar.specs.declared.tree.Statement.{Statement}
use Rattle.sb_grammar.specs.declared.tree.Statement.TheVariants as statement
use Rattle.sb_grammar.specs.declared.tree.Waited.{Waited}
use Rattle.sb_grammar.specs.declared.tree.Waited.TheVariants as waited

-- the fixed words that a definition begins with
abbrev pub definition_words : Ddl → List ℕ
definition_words (ddl.MessageType _) = codes "CREATE MESSAGE TYPE"
definition_words (ddl.Contract _) = codes "CREATE CONTRACT"
definition_words (ddl.Queue _) = codes "CREATE QUEUE"
definition_words (ddl.Service _) = codes "CREATE SERVICE"
definition_words (ddl.Route _) = codes "CREATE ROUTE"
definition_words (ddl.Priority _) = codes "CREATE BROKER PRIORITY"
definition_words (ddl.Table _) = codes "CREATE TABLE"
definition_words (ddl.Procedure _) = codes "CREATE PROCEDURE"

-- WAITFOR is named by what it waits for
abbrev pub waited_words : Waited → List ℕ
waited_words (waited.Receive _) = codes "RECEIVE"
waited_words (waited.GetGroup _) = codes "GET CONVERSATION GROUP"

-- the first fixed words of a statement
abbrev pub words_of : Statement → List ℕ
words_of (statement.Define d) = definition_words d
words_of (statement.CreateProcedure' _ _ _ _) = codes "CREATE PROCEDURE"
words_of (statement.AlterQueue _ _) = codes "ALTER QUEUE"
words_of statement.BeginTransaction = codes "BEGIN TRANSACTION"
words_of statement.Commit = codes "COMMIT"
words_of statement.Rollback = codes "ROLLBACK"
words_of (statement.BeginDialog _ _ _ _ _ _) = codes "BEGIN DIALOG"
words_of (statement.Send _ _ _) = codes "SEND"
words_of (statement.Receive _) = codes "RECEIVE"
words_of (statement.GetGroup _) = codes "GET CONVERSATION GROUP"
words_of (statement.Waitfor w _) = waited_words w
words_of (statement.Move _ _) = codes "MOVE"
words_of (statement.EndConversation _ _) = codes "END CONVERSATION"
words_of (statement.Timer _ _) = codes "BEGIN CONVERSATION TIMER"
words_of (statement.Insert _ _ _ _) = codes "INSERT"
words_of (statement.Update _ _ _) = codes "UPDATE"
words_of (statement.Delete _ _) = codes "DELETE"
words_of (statement.Select _ _ _) = codes "SELECT"
words_of (statement.Declare _) = codes "DECLARE"
words_of (statement.Set _ _) = codes "SET"
words_of (statement.SetNoCount _) = codes "SET"
words_of (statement.If' _ _ _ _) = codes "IF"
words_of (statement.Block' _ _) = codes "BEGIN"
words_of statement.Return = codes "RETURN"
