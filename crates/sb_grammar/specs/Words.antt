-- Words in either case, and signs.
use Rattle.std.specs.Prelude.{ℕ, Bool, ◌&&◌, List, codes, Option, Some, None, if◌then◌else◌}
use Rattle.std.specs.Str.{str_eq_ignore_ascii_case}
use denote.Enum.Bare.{sameb}
use Rattle.sb_lex.specs.contracts.token.TokenKind.{the_type}
use Rattle.sb_lex.specs.declared.token.TokenKind.{TokenKind}
use Rattle.sb_lex.specs.declared.token.TokenKind.TheVariants as tokens
use Rattle.sb_grammar.specs.declared.lexeme.Lexeme.{Lexeme}
use Rattle.sb_grammar.specs.declared.word.Fixed.{Fixed}
use Rattle.sb_grammar.specs.declared.word.Fixed.TheVariants as fixed

abbrev pub spelling : Fixed → List ℕ
spelling fixed.Open = codes "("
spelling fixed.Close = codes ")"
spelling fixed.Comma = codes ","
spelling fixed.Dot = codes "."
spelling fixed.Semicolon = codes ";"
spelling fixed.Equals = codes "="
spelling fixed.NotEqual = codes "<>"
spelling fixed.Less = codes "<"
spelling fixed.Greater = codes ">"
spelling fixed.Plus = codes "+"
spelling fixed.Minus = codes "-"
spelling fixed.Star = codes "*"
spelling fixed.Create = codes "CREATE"
spelling fixed.Alter = codes "ALTER"
spelling fixed.Begin = codes "BEGIN"
spelling fixed.Commit = codes "COMMIT"
spelling fixed.Rollback = codes "ROLLBACK"
spelling fixed.Send = codes "SEND"
spelling fixed.Waitfor = codes "WAITFOR"
spelling fixed.Receive = codes "RECEIVE"
spelling fixed.Get = codes "GET"
spelling fixed.Move = codes "MOVE"
spelling fixed.End = codes "END"
spelling fixed.Insert = codes "INSERT"
spelling fixed.Update = codes "UPDATE"
spelling fixed.Delete = codes "DELETE"
spelling fixed.Select = codes "SELECT"
spelling fixed.Declare = codes "DECLARE"
spelling fixed.Set = codes "SET"
spelling fixed.If = codes "IF"
spelling fixed.Return = codes "RETURN"
spelling fixed.Drop = codes "DROP"
spelling fixed.While = codes "WHILE"
spelling fixed.Print = codes "PRINT"
spelling fixed.Exec = codes "EXEC"
spelling fixed.Execute = codes "EXECUTE"
spelling fixed.Use = codes "USE"
spelling fixed.Save = codes "SAVE"
spelling fixed.Try = codes "TRY"
spelling fixed.Message = codes "MESSAGE"
spelling fixed.Type = codes "TYPE"
spelling fixed.Contract = codes "CONTRACT"
spelling fixed.Queue = codes "QUEUE"
spelling fixed.Service = codes "SERVICE"
spelling fixed.Route = codes "ROUTE"
spelling fixed.Broker = codes "BROKER"
spelling fixed.Priority = codes "PRIORITY"
spelling fixed.Table = codes "TABLE"
spelling fixed.Procedure = codes "PROCEDURE"
spelling fixed.Proc = codes "PROC"
spelling fixed.Authorization = codes "AUTHORIZATION"
spelling fixed.Validation = codes "VALIDATION"
spelling fixed.Nothing = codes "NONE"
spelling fixed.Empty = codes "EMPTY"
spelling fixed.WellFormedXml = codes "WELL_FORMED_XML"
spelling fixed.ValidXml = codes "VALID_XML"
spelling fixed.Sent = codes "SENT"
spelling fixed.By = codes "BY"
spelling fixed.Initiator = codes "INITIATOR"
spelling fixed.Target = codes "TARGET"
spelling fixed.Any = codes "ANY"
spelling fixed.With = codes "WITH"
spelling fixed.Status = codes "STATUS"
spelling fixed.On = codes "ON"
spelling fixed.Off = codes "OFF"
spelling fixed.Retention = codes "RETENTION"
spelling fixed.Activation = codes "ACTIVATION"
spelling fixed.PoisonMessageHandling = codes "POISON_MESSAGE_HANDLING"
spelling fixed.ProcedureName = codes "PROCEDURE_NAME"
spelling fixed.MaxQueueReaders = codes "MAX_QUEUE_READERS"
spelling fixed.As = codes "AS"
spelling fixed.Itself = codes "SELF"
spelling fixed.Owner = codes "OWNER"
spelling fixed.ServiceName = codes "SERVICE_NAME"
spelling fixed.BrokerInstance = codes "BROKER_INSTANCE"
spelling fixed.Address = codes "ADDRESS"
spelling fixed.Lifetime = codes "LIFETIME"
spelling fixed.MirrorAddress = codes "MIRROR_ADDRESS"
spelling fixed.For = codes "FOR"
spelling fixed.Conversation = codes "CONVERSATION"
spelling fixed.ContractName = codes "CONTRACT_NAME"
spelling fixed.LocalServiceName = codes "LOCAL_SERVICE_NAME"
spelling fixed.RemoteServiceName = codes "REMOTE_SERVICE_NAME"
spelling fixed.PriorityLevel = codes "PRIORITY_LEVEL"
spelling fixed.Default = codes "DEFAULT"
spelling fixed.Id = codes "ID"
spelling fixed.BigInt = codes "BIGINT"
spelling fixed.Primary = codes "PRIMARY"
spelling fixed.Key = codes "KEY"
spelling fixed.N = codes "N"
spelling fixed.Body = codes "BODY"
spelling fixed.NVarChar = codes "NVARCHAR"
spelling fixed.Max = codes "MAX"
spelling fixed.Tran = codes "TRAN"
spelling fixed.Transaction = codes "TRANSACTION"
spelling fixed.Work = codes "WORK"
spelling fixed.Dialog = codes "DIALOG"
spelling fixed.From = codes "FROM"
spelling fixed.To = codes "TO"
spelling fixed.RelatedConversation = codes "RELATED_CONVERSATION"
spelling fixed.RelatedConversationGroup = codes "RELATED_CONVERSATION_GROUP"
spelling fixed.Encryption = codes "ENCRYPTION"
spelling fixed.Top = codes "TOP"
spelling fixed.Where = codes "WHERE"
spelling fixed.ConversationHandle = codes "CONVERSATION_HANDLE"
spelling fixed.ConversationGroupId = codes "CONVERSATION_GROUP_ID"
spelling fixed.MessageTypeName = codes "MESSAGE_TYPE_NAME"
spelling fixed.MessageSequenceNumber = codes "MESSAGE_SEQUENCE_NUMBER"
spelling fixed.MessageBody = codes "MESSAGE_BODY"
spelling fixed.Cast = codes "CAST"
spelling fixed.Timeout = codes "TIMEOUT"
spelling fixed.Group = codes "GROUP"
spelling fixed.Into = codes "INTO"
spelling fixed.Error = codes "ERROR"
spelling fixed.Description = codes "DESCRIPTION"
spelling fixed.Cleanup = codes "CLEANUP"
spelling fixed.Timer = codes "TIMER"
spelling fixed.Values = codes "VALUES"
spelling fixed.Int = codes "INT"
spelling fixed.SysName = codes "SYSNAME"
spelling fixed.VarBinary = codes "VARBINARY"
spelling fixed.UniqueIdentifier = codes "UNIQUEIDENTIFIER"
spelling fixed.NoCount = codes "NOCOUNT"
spelling fixed.Else = codes "ELSE"
spelling fixed.And = codes "AND"
spelling fixed.Or = codes "OR"
spelling fixed.Is = codes "IS"
spelling fixed.Not = codes "NOT"
spelling fixed.Null = codes "NULL"
spelling fixed.Schema = codes "DBO"

abbrev pub kind : Fixed → TokenKind
kind fixed.Open = tokens.Sign
kind fixed.Close = tokens.Sign
kind fixed.Comma = tokens.Sign
kind fixed.Dot = tokens.Sign
kind fixed.Semicolon = tokens.Sign
kind fixed.Equals = tokens.Sign
kind fixed.NotEqual = tokens.Sign
kind fixed.Less = tokens.Sign
kind fixed.Greater = tokens.Sign
kind fixed.Plus = tokens.Sign
kind fixed.Minus = tokens.Sign
kind fixed.Star = tokens.Sign
kind _ = tokens.Word

-- the token is this sign, or this word in either case
unfoldable pub is_fixed : Fixed → Lexeme → Bool
is_fixed w t = sameb the_type t.kind (kind w) && str_eq_ignore_ascii_case t.value (spelling w)

-- such a token
abbrev pub example : Fixed → Lexeme
example w = record { kind = kind w; value = spelling w; start = 0; end = 0 }

unfoldable pub fixed_at : Fixed → Lexeme → Option (Unit {0})
fixed_at w t = if is_fixed w t then Some tt else None
