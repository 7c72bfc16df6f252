pub mod AuditLaws
pub mod InsideLaws
pub mod RunLaws
pub mod ScriptLaws
pub mod ServedLaws
