mod Worked
pub mod CreditLaws
pub mod BlockLaws
pub mod WorkLaws
pub mod WriteLaws
pub mod FlipLaws
pub mod PaidLaws
