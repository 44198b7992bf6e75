-- Why a stored entry is refused.
pub mod RefusalLaws
