-- Promised: what contracts see of a pass, what each kind of step does to it, and the rule.
pub mod Items
pub mod Passes
pub mod Rule
pub mod Steps
pub mod Views
-- Laws: small examples, on which the definitions compute.
pub mod Examples
