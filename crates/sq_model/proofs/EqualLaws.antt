-- What is found equal is the same, and what is the same is found equal.
use Rattle.std.proofs.Common.{◌≡◌, Bool, List, ℕ, Option, Some, None, refl, ap, rules}
use Rattle.std.specs.Bool.{Decides}
use Rattle.std.specs.Option.{option_eq}
use Rattle.std.specs.Cmp.{booleans_Decides}
use Rattle.std.specs.Cmp.Lexicographic.{pointwise, pointwise_decides, bytes_decides}
use Rattle.std.proofs.lemmas.Bool.Decides.{Decides-and, Decides-like, Decides-eqb}
use Rattle.sq_base.specs.declared.message_id.MessageId.{MessageId}
use Rattle.sq_base.specs.declared.row.Row.{Row}
use Rattle.sq_base.specs.declared.settings.Settings.{Settings}
use Rattle.sq_base.specs.declared.ids.HomeId.{HomeId}
use Rattle.sq_base.specs.contracts.ids.HomeIdPartialEq.TheImpl as home_eq
use Rattle.sq_base.specs.contracts.message_id.MessageIdPartialEq.TheImpl as id_eq
use Rattle.sq_base.specs.contracts.name.QueueNamePartialEq.TheImpl as name_eq
use Rattle.sq_base.specs.contracts.row.RowPartialEq.TheImpl as row_eq
use Rattle.sq_base.specs.contracts.settings.SettingsPartialEq.TheImpl as settings_eq
use Rattle.sq_model.specs.declared.calls.HomeCall.{HomeCall}
use Rattle.sq_model.specs.declared.item.Item.{Item}
use Rattle.sq_model.specs.declared.item.Reason.{Reason}
use Rattle.sq_model.specs.declared.replies.HomeReply.{HomeReply}
use Rattle.sq_model.specs.declared.policy.RedrivePolicy.{RedrivePolicy}
use Rattle.sq_model.specs.declared.policy.AllowPolicy.{AllowPolicy}
use Rattle.sq_model.specs.declared.directory.Attributes.{Attributes}
use Rattle.sq_model.specs.declared.directory.DirectoryCall.{DirectoryCall}
use Rattle.sq_model.specs.declared.directory.DirectoryReply.{DirectoryReply}
use Rattle.sq_model.specs.declared.directory.QueueAttributes.{QueueAttributes}
use Rattle.sq_model.specs.declared.ledger.LedgerCall.{LedgerCall}
use Rattle.sq_model.specs.declared.ledger.LedgerReply.{LedgerReply}
use Rattle.sq_model.specs.declared.task.NamedQueue.{NamedQueue}
use Rattle.sq_model.specs.declared.task.Task.{Task}
use Rattle.sq_model.specs.declared.task.TaskStatus.{TaskStatus}
use Rattle.sq_model.specs.contracts.calls.HomeCallPartialEq.TheImpl as call_eq
use Rattle.sq_model.specs.contracts.item.ItemPartialEq.TheImpl as item_eq
use Rattle.sq_model.specs.contracts.item.ReasonPartialEq.TheImpl as reason_eq
use Rattle.sq_model.specs.contracts.replies.HomeReplyPartialEq.TheImpl as reply_eq
use Rattle.sq_model.specs.contracts.policy.RedrivePolicyPartialEq.TheImpl as redrive_eq
use Rattle.sq_model.specs.contracts.policy.AllowPolicyPartialEq.TheImpl as allow_eq
use Rattle.sq_model.specs.declared.directory.NamePrefix.{NamePrefix}
use Rattle.sq_model.specs.declared.directory.QueueSettings.{QueueSettings}
use Rattle.sq_model.specs.contracts.directory.NamePrefixPartialEq.TheImpl as prefix_eq
use Rattle.sq_model.specs.contracts.directory.QueueSettingsPartialEq.TheImpl as queue_settings_eq
use Rattle.sq_model.specs.contracts.directory.AttributesPartialEq.TheImpl as attributes_eq
use Rattle.sq_model.specs.contracts.directory.QueueAttributesPartialEq.TheImpl as read_eq
use Rattle.sq_model.specs.contracts.directory.DirectoryCallPartialEq.TheImpl as directory_call_eq
use Rattle.sq_model.specs.contracts.directory.DirectoryReplyPartialEq.TheImpl as directory_reply_eq
use Rattle.sq_model.specs.contracts.ledger.LedgerCallPartialEq.TheImpl as ledger_call_eq
use Rattle.sq_model.specs.contracts.ledger.LedgerReplyPartialEq.TheImpl as ledger_reply_eq
use Rattle.sq_model.specs.contracts.task.NamedQueuePartialEq.TheImpl as queue_eq
use Rattle.sq_model.specs.contracts.task.TaskPartialEq.TheImpl as task_eq
use Rattle.sq_model.specs.contracts.task.TaskStatusPartialEq.TheImpl as status_eq

pub equal_option : {X : Type 0} {eq : X → X → Bool} → ((x y : X) → Decides (eq x y) (x ≡ y)) → (a b : Option X) → Decides (option_eq eq a b) (a ≡ b)
equal_option h None None = (λ e. refl, λ e. refl)
equal_option h None (Some y) = (λ e. absurd cc, λ e. absurd cc)
equal_option h (Some x) None = (λ e. absurd cc, λ e. absurd cc)
equal_option h (Some x) (Some y) = (λ e. ap Some ((h x y).0 e), λ e. (h x y).1 cc)

pub equal_id : (a b : MessageId) → Decides (id_eq.ghosts.eq a b) (a ≡ b)
equal_id a b = search (rules)

pub equal_row : (a b : Row) → Decides (row_eq.ghosts.eq a b) (a ≡ b)
equal_row a b = Decides-like _ (λ h i. record { id = h.0 i; lineage = h.1.0 i; body = h.1.1.0 i; serial = h.1.1.1.0 i; slot = h.1.1.1.1.0 i; receives = h.1.1.1.1.1.0 i; enqueued = h.1.1.1.1.1.1.0 i; visible_from = h.1.1.1.1.1.1.1.0 i; last_receive = h.1.1.1.1.1.1.1.1.0 i; origin = h.1.1.1.1.1.1.1.1.1 i }) (λ e. search) (Decides-and _ _ (equal_id a.id b.id) (Decides-and _ _ (equal_id a.lineage b.lineage) (Decides-and _ _ (bytes_decides a.body b.body) (Decides-and _ _ (Decides-eqb a.serial b.serial) (Decides-and _ _ (Decides-eqb a.slot b.slot) (Decides-and _ _ (Decides-eqb a.receives b.receives) (Decides-and _ _ (Decides-eqb a.enqueued b.enqueued) (Decides-and _ _ (Decides-eqb a.visible_from b.visible_from) (Decides-and _ _ (equal_option Decides-eqb a.last_receive b.last_receive) (equal_option Decides-eqb a.origin b.origin))))))))))

pub equal_rows : (xs ys : List Row) → Decides (pointwise row_eq.ghosts.eq xs ys) (xs ≡ ys)
equal_rows = pointwise_decides equal_row

pub equal_settings : (a b : Settings) → Decides (settings_eq.ghosts.eq a b) (a ≡ b)
equal_settings a b = search (rules)

pub equal_reason : (a b : Reason) → Decides (reason_eq.ghosts.eq a b) (a ≡ b)
equal_reason a b = search (rules)

pub equal_item : (a b : Item) → Decides (item_eq.ghosts.eq a b) (a ≡ b)
equal_item a b = Decides-like _ (λ h i. record { number = h.0 i; row = h.1.0 i; source = h.1.1.0 i; target = h.1.1.1.0 i; reason = h.1.1.1.1.0 i; homeward = h.1.1.1.1.1 i }) (λ e. search) (Decides-and _ _ (Decides-eqb a.number b.number) (Decides-and _ _ (equal_row a.row b.row) (Decides-and _ _ (Decides-eqb a.source b.source) (Decides-and _ _ (Decides-eqb a.target b.target) (Decides-and _ _ (equal_reason a.reason b.reason) (booleans_Decides a.homeward b.homeward))))))

pub equal_call : (a b : HomeCall) → Decides (call_eq.ghosts.eq a b) (a ≡ b)
equal_call a b = search (equal_item, equal_settings, rules)

pub equal_reply : (a b : HomeReply) → Decides (reply_eq.ghosts.eq a b) (a ≡ b)
equal_reply a b = search (equal_item, equal_rows, equal_id, rules)

pub equal_names : (xs ys : List (List ℕ)) → Decides (pointwise name_eq.ghosts.eq xs ys) (xs ≡ ys)
equal_names = pointwise_decides bytes_decides

pub equal_redrive : (a b : RedrivePolicy) → Decides (redrive_eq.ghosts.eq a b) (a ≡ b)
equal_redrive a b = search (rules)

pub equal_allow : (a b : AllowPolicy) → Decides (allow_eq.ghosts.eq a b) (a ≡ b)
equal_allow AllowPolicy.AllowAll AllowPolicy.AllowAll = (λ e. refl, λ e. refl)
equal_allow AllowPolicy.DenyAll AllowPolicy.DenyAll = (λ e. refl, λ e. refl)
equal_allow (AllowPolicy.ByQueue x) (AllowPolicy.ByQueue y) = (λ e. ap AllowPolicy.ByQueue ((equal_names x y).0 e), λ e. (equal_names x y).1 cc)
equal_allow a b = (λ e. absurd cc, λ e. absurd cc)

pub equal_attributes : (a b : Attributes) → Decides (attributes_eq.ghosts.eq a b) (a ≡ b)
equal_attributes a b = Decides-like _ (λ h i. record { redrive = h.0 i; allow = h.1.0 i; delay = h.1.1.0 i; retention = h.1.1.1.0 i; wait_time = h.1.1.1.1.0 i; timeout = h.1.1.1.1.1 i }) (λ e. search) (Decides-and _ _ (equal_option (equal_option equal_redrive) a.redrive b.redrive) (Decides-and _ _ (equal_option (equal_option equal_allow) a.allow b.allow) (Decides-and _ _ (equal_option Decides-eqb a.delay b.delay) (Decides-and _ _ (equal_option Decides-eqb a.retention b.retention) (Decides-and _ _ (equal_option Decides-eqb a.wait_time b.wait_time) (equal_option Decides-eqb a.timeout b.timeout))))))

pub equal_read : (a b : QueueAttributes) → Decides (read_eq.ghosts.eq a b) (a ≡ b)
equal_read a b = Decides-like _ (λ h i. record { queue = h.0 i; settings = h.1.0 i; redrive = h.1.1.0 i; allow = h.1.1.1 i }) (λ e. search) (Decides-and _ _ (Decides-eqb a.queue b.queue) (Decides-and _ _ (equal_settings a.settings b.settings) (Decides-and _ _ (equal_option equal_redrive a.redrive b.redrive) (equal_option equal_allow a.allow b.allow))))

pub equal_prefix : (a b : NamePrefix) → Decides (prefix_eq.ghosts.eq a b) (a ≡ b)
equal_prefix a b = search (rules)

pub equal_directory_call : (a b : DirectoryCall) → Decides (directory_call_eq.ghosts.eq a b) (a ≡ b)
equal_directory_call (DirectoryCall.Create x y) (DirectoryCall.Create z w) = Decides-like _ (λ h i. DirectoryCall.Create (h.0 i) (h.1 i)) (λ e. (cc, cc)) (Decides-and _ _ (bytes_decides x z) (equal_attributes y w))
equal_directory_call (DirectoryCall.Set x y) (DirectoryCall.Set z w) = Decides-like _ (λ h i. DirectoryCall.Set (h.0 i) (h.1 i)) (λ e. (cc, cc)) (Decides-and _ _ (bytes_decides x z) (equal_attributes y w))
equal_directory_call (DirectoryCall.Remove x) (DirectoryCall.Remove y) = (λ e. ap DirectoryCall.Remove ((bytes_decides x y).0 e), λ e. (bytes_decides x y).1 cc)
equal_directory_call (DirectoryCall.PurgeTicket x) (DirectoryCall.PurgeTicket y) = (λ e. ap DirectoryCall.PurgeTicket ((bytes_decides x y).0 e), λ e. (bytes_decides x y).1 cc)
equal_directory_call (DirectoryCall.Url x) (DirectoryCall.Url y) = (λ e. ap DirectoryCall.Url ((bytes_decides x y).0 e), λ e. (bytes_decides x y).1 cc)
equal_directory_call (DirectoryCall.List x) (DirectoryCall.List y) = (λ e. ap DirectoryCall.List ((equal_prefix x y).0 e), λ e. (equal_prefix x y).1 cc)
equal_directory_call (DirectoryCall.Sources x) (DirectoryCall.Sources y) = (λ e. ap DirectoryCall.Sources ((bytes_decides x y).0 e), λ e. (bytes_decides x y).1 cc)
equal_directory_call (DirectoryCall.Read x) (DirectoryCall.Read y) = (λ e. ap DirectoryCall.Read ((bytes_decides x y).0 e), λ e. (bytes_decides x y).1 cc)
equal_directory_call a b = (λ e. absurd cc, λ e. absurd cc)

pub equal_queue_settings : (a b : QueueSettings) → Decides (queue_settings_eq.ghosts.eq a b) (a ≡ b)
equal_queue_settings a b = search (equal_settings, rules)

pub equal_directory_reply : (a b : DirectoryReply) → Decides (directory_reply_eq.ghosts.eq a b) (a ≡ b)
equal_directory_reply (DirectoryReply.Made x) (DirectoryReply.Made y) = (λ e. ap DirectoryReply.Made ((equal_queue_settings x y).0 e), λ e. (equal_queue_settings x y).1 cc)
equal_directory_reply (DirectoryReply.Changed x) (DirectoryReply.Changed y) = (λ e. ap DirectoryReply.Changed ((equal_queue_settings x y).0 e), λ e. (equal_queue_settings x y).1 cc)
equal_directory_reply (DirectoryReply.Removed x) (DirectoryReply.Removed y) = (λ e. ap DirectoryReply.Removed ((Decides-eqb x y).0 e), λ e. (Decides-eqb x y).1 cc)
equal_directory_reply (DirectoryReply.Ticket x) (DirectoryReply.Ticket y) = (λ e. ap DirectoryReply.Ticket ((Decides-eqb x y).0 e), λ e. (Decides-eqb x y).1 cc)
equal_directory_reply (DirectoryReply.Found x) (DirectoryReply.Found y) = (λ e. ap DirectoryReply.Found ((Decides-eqb x y).0 e), λ e. (Decides-eqb x y).1 cc)
equal_directory_reply (DirectoryReply.Listed x) (DirectoryReply.Listed y) = (λ e. ap DirectoryReply.Listed ((equal_names x y).0 e), λ e. (equal_names x y).1 cc)
equal_directory_reply (DirectoryReply.Sources x) (DirectoryReply.Sources y) = (λ e. ap DirectoryReply.Sources ((equal_names x y).0 e), λ e. (equal_names x y).1 cc)
equal_directory_reply (DirectoryReply.Read x) (DirectoryReply.Read y) = (λ e. ap DirectoryReply.Read ((equal_read x y).0 e), λ e. (equal_read x y).1 cc)
equal_directory_reply a b = (λ e. absurd cc, λ e. absurd cc)

pub equal_queue : (a b : NamedQueue) → Decides (queue_eq.ghosts.eq a b) (a ≡ b)
equal_queue a b = search (rules)

pub equal_status : (a b : TaskStatus) → Decides (status_eq.ghosts.eq a b) (a ≡ b)
equal_status a b = search (rules)

pub equal_task : (a b : Task) → Decides (task_eq.ghosts.eq a b) (a ≡ b)
equal_task a b = Decides-like _ (λ h i. record { number = h.0 i; source = h.1.0 i; destination = h.1.1.0 i; rate = h.1.1.1.0 i; started = h.1.1.1.1.0 i; status = h.1.1.1.1.1.0 i; left = h.1.1.1.1.1.1.0 i; moved = h.1.1.1.1.1.1.1.0 i; back = h.1.1.1.1.1.1.1.1.0 i; dropped = h.1.1.1.1.1.1.1.1.1.0 i; second = h.1.1.1.1.1.1.1.1.1.1.0 i; in_second = h.1.1.1.1.1.1.1.1.1.1.1 i }) (λ e. search) (Decides-and _ _ (Decides-eqb a.number b.number) (Decides-and _ _ (equal_queue a.source b.source) (Decides-and _ _ (equal_option equal_queue a.destination b.destination) (Decides-and _ _ (equal_option Decides-eqb a.rate b.rate) (Decides-and _ _ (Decides-eqb a.started b.started) (Decides-and _ _ (equal_status a.status b.status) (Decides-and _ _ (Decides-eqb a.left b.left) (Decides-and _ _ (Decides-eqb a.moved b.moved) (Decides-and _ _ (Decides-eqb a.back b.back) (Decides-and _ _ (Decides-eqb a.dropped b.dropped) (Decides-and _ _ (Decides-eqb a.second b.second) (Decides-eqb a.in_second b.in_second))))))))))))

pub equal_tasks : (xs ys : List Task) → Decides (pointwise task_eq.ghosts.eq xs ys) (xs ≡ ys)
equal_tasks = pointwise_decides equal_task

pub equal_home : (a b : HomeId) → Decides (home_eq.ghosts.eq a b) (a ≡ b)
equal_home a b = search (rules)

pub equal_ledger_call : (a b : LedgerCall) → Decides (ledger_call_eq.ghosts.eq a b) (a ≡ b)
equal_ledger_call (LedgerCall.AtHome x y) (LedgerCall.AtHome z w) = Decides-like _ (λ h i. LedgerCall.AtHome (h.0 i) (h.1 i)) (λ e. (cc, cc)) (Decides-and _ _ (equal_home x z) (equal_call y w))
equal_ledger_call (LedgerCall.StartTask x y z) (LedgerCall.StartTask u v w) = Decides-like _ (λ h i. LedgerCall.StartTask (h.0 i) (h.1.0 i) (h.1.1 i)) (λ e. (cc, (cc, cc))) (Decides-and _ _ (equal_queue x u) (Decides-and _ _ (equal_option equal_queue y v) (equal_option Decides-eqb z w)))
equal_ledger_call (LedgerCall.CancelTask x) (LedgerCall.CancelTask y) = (λ e. ap LedgerCall.CancelTask ((Decides-eqb x y).0 e), λ e. (Decides-eqb x y).1 cc)
equal_ledger_call (LedgerCall.ListTasks x y) (LedgerCall.ListTasks z w) = Decides-like _ (λ h i. LedgerCall.ListTasks (h.0 i) (h.1 i)) (λ e. (cc, cc)) (Decides-and _ _ (Decides-eqb x z) (Decides-eqb y w))
equal_ledger_call (LedgerCall.FinishTask x) (LedgerCall.FinishTask y) = (λ e. ap LedgerCall.FinishTask ((Decides-eqb x y).0 e), λ e. (Decides-eqb x y).1 cc)
equal_ledger_call a b = (λ e. absurd cc, λ e. absurd cc)

pub equal_ledger_reply : (a b : LedgerReply) → Decides (ledger_reply_eq.ghosts.eq a b) (a ≡ b)
equal_ledger_reply (LedgerReply.AtHome x) (LedgerReply.AtHome y) = (λ e. ap LedgerReply.AtHome ((equal_reply x y).0 e), λ e. (equal_reply x y).1 cc)
equal_ledger_reply (LedgerReply.Started x) (LedgerReply.Started y) = (λ e. ap LedgerReply.Started ((Decides-eqb x y).0 e), λ e. (Decides-eqb x y).1 cc)
equal_ledger_reply (LedgerReply.Cancelled x) (LedgerReply.Cancelled y) = (λ e. ap LedgerReply.Cancelled ((Decides-eqb x y).0 e), λ e. (Decides-eqb x y).1 cc)
equal_ledger_reply (LedgerReply.Listed x) (LedgerReply.Listed y) = (λ e. ap LedgerReply.Listed ((equal_tasks x y).0 e), λ e. (equal_tasks x y).1 cc)
equal_ledger_reply LedgerReply.Finished LedgerReply.Finished = (λ e. refl, λ e. refl)
equal_ledger_reply a b = (λ e. absurd cc, λ e. absurd cc)
