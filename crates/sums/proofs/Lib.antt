pub mod KeyLaws
pub mod OrderLaws
pub mod ComponentLaws
pub mod MeetLaws
pub mod CountLaws
pub mod RunLaws
pub mod SizeLaws
